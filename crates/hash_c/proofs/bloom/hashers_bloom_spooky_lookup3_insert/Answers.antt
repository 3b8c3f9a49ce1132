use Rattle.hash_c.proofs.Common.{ℕ, List, rules, subst}
use Rattle.std.proofs.Math.Path.{fun_ext}
use Rattle.hashers.specs.Lookup3.{lookup3_from, lookup3_answer}
use Rattle.hash_bloom.specs.Filter.{filter_of}
use Rattle.hash_c.specs.Blooms.{IsInserted}
use Rattle.hash_c.proofs.bloom.hashers_bloom_spooky_lookup3_insert.Goals as goal

pub returns : goal.returns
returns c = subst
    (λ (f : List ℕ → ℕ). IsInserted f (λ text. lookup3_answer (lookup3_from (0, 0) text))
    (filter_of c.args.bits c.args.probes c.args.words.now)
    (filter_of c.args.bits c.args.probes c.insert.new.words) c.args.key.now c.insert.result)
    (fun_ext (λ text. search rules))
    c.insert.ensures
