use Rattle.std.proofs.Common.{refl, arith}
use Rattle.std.proofs.lemmas.List.{nil_from_length}
use Rattle.hash_words.specs.Words.{le, rotl}
use Rattle.hash_blocks.specs.Murmur3.{scramble}
use Rattle.hash_blocks.proofs.murmur3.x86_32.scrambled_rest.Goals as goal

pub returns-in-empty : goal.returns-in-empty
unfolding scramble rotl le
returns-in-empty c = rw (nil_from_length c.args.left.now (omega arith)) refl
