use Rattle.hash_bytes.proofs.Common.{sym, ◌∙◌}
use Rattle.hash_bytes.proofs.Joined.{sdbm_joined, sdbm_moved}
use Rattle.hash_bytes.proofs.oz.sdbm_combine.Goals as goal

pub returns-clause-value : goal.returns-clause-value
returns-clause-value c = c.from.ensures ∙ sdbm_moved c.args.hash1 c.args.hash2 c.args.length2 _ c.wrapping_pow-power.ensures

pub returns-clause-joined : goal.returns-clause-joined
returns-clause-joined c = λ x y long first second. returns-clause-value c ∙ rw (first, second, sym long) (sym (sdbm_joined x y))
