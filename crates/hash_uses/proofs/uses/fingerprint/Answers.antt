use Rattle.std.proofs.Common.{ℕ, arith, ◌≡◌, sym, ◌∙◌, subst}
use Rattle.std.proofs.lemmas.Bool.{false≢true}
use Rattle.hashers.specs.Fnv.{fnv1a64_from, fnv1a64_basis}
use Rattle.hashers.specs.Reading.{FeedsRead}
use Rattle.hash_uses.proofs.uses.fingerprint.Goals.{then-taken, else-taken}
use Rattle.hash_uses.proofs.uses.fingerprint.Goals as goal

pub returns-clause-hash : goal.returns-clause-hash
returns-clause-hash g c =
    let left = g.R.Read.remaining in
    let read = c.in_ok-taken.ensures in
    let bytes = c.in_ok-taken.taken.bytes in
    let reads = λ (from hash : ℕ). FeedsRead fnv1a64_from 4096 (left c.args.r.now) (left c.hash_reader.new.r) from hash bytes in
    elim c.if-taken.branch [
      | then-taken w ↦
          let not_full : (bytes ≡ c.args.limit) → ⊥ = λ full. false≢true (sym (read.at_limit.1 full) ∙ w.if-taken.true) in
          let fed = subst (λ from. reads from c.hash_reader.new.h) c.fresh-hasher.ensures.state read.taken in
          rw w.result-is (bytes, omega (arith, read.within, not_full), subst (reads fnv1a64_basis) (sym w.answer.ensures.value) fed)
      | else-taken w ↦ rw w.result-is tt
    ]

pub returns-clause-ended : goal.returns-clause-ended
returns-clause-ended g c = elim c.if-taken.branch [
  | then-taken w ↦ rw w.result-is (c.in_ok-taken.ensures.nothing_left w.if-taken.true)
  | else-taken w ↦ rw w.result-is tt
]

pub returns-clause-limit_met : goal.returns-clause-limit_met
returns-clause-limit_met g c =
    let left = g.R.Read.remaining in
    let read = c.in_ok-taken.ensures in
    let reads = λ (from bytes : ℕ). FeedsRead fnv1a64_from 4096 (left c.args.r.now) (left c.hash_reader.new.r) from
    c.hash_reader.new.h bytes in
    elim c.if-taken.branch [
      | then-taken w ↦ rw w.result-is tt
      | else-taken w ↦
          let fed = subst (λ from. reads from c.in_ok-taken.taken.bytes) c.fresh-hasher.ensures.state read.taken in
          rw w.result-is (c.hash_reader.new.h, subst (reads fnv1a64_basis) (read.at_limit.0 w.if-taken.false) fed)
    ]
