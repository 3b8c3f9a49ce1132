use Rattle.std.proofs.Common.{refl, arith}
use Rattle.std.proofs.lemmas.List.{nil_from_length}
use Rattle.hash_words.specs.Words.{le, rotl}
use Rattle.hash_blocks.specs.Murmur3x128.{scrambled}
use Rattle.hash_blocks.proofs.murmur3.x64_128.scrambled_rest.Goals as goal

pub returns-in-empty-clause-first : goal.returns-in-empty-clause-first
unfolding scrambled rotl le
returns-in-empty-clause-first c = rw (nil_from_length c.args.left.now (omega arith)) refl

pub returns-in-empty-clause-second : goal.returns-in-empty-clause-second
unfolding scrambled rotl le
returns-in-empty-clause-second c = rw (nil_from_length c.args.left.now (omega arith)) refl
