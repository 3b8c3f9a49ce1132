use Rattle.cuts_core.proofs.Common.{◌+◌, ◌∷◌, ◌++◌, [], ℕ, List, append_assoc, ap, subst, ◌∙◌, IsCounted, sum_by, Tally}
use Rattle.cuts_core.proofs.TallyLemmas.{counted_more}
use Rattle.cuts_core.proofs.tally.TallySink.take.Goals as goal

pub returns-clause-ok : goal.returns-clause-ok
returns-clause-ok c start before (kind, counts) =
    let chunk = c.args.chunk.now in
    let new : Tally = record {
      kind = c.args.self.now.kind;
      chunks = c.in_ok-self.field-0;
      bytes = c.in_ok-self-2.field-0;
      first = c.in_ok-self-3.field-0;
      hashes = c.see.new.hashes;
    } in (
      kind,
      λ none all is.
          subst (λ (given : List (List ℕ)). IsCounted (sum_by start.kind) given new) (append_assoc all before (chunk ∷ []))
          (counted_more (sum_by start.kind) (all ++ before) chunk c.args.self.now new c.in_ok-is_new.is_new c.number_of_text.result (counts none all is)
          (c.number_of_text.ensures ∙ ap (λ k. sum_by k chunk) kind) c.in_ok-is_new.ensures.new c.in_ok-is_new.ensures.seen
          c.in_ok-self.ensures.ok c.in_ok-self-2.ensures.ok (c.in_ok-self-3.ensures.ok ∙ ap (λ n. c.args.self.now.first + n) c.bytes_if.ensures)),
    )
