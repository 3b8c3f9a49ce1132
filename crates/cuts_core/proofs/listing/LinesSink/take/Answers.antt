use Rattle.cuts_core.proofs.Common.{◌≡◌, List, ℕ, ap₂, subst, ◌∙◌, chunk_line, Sum, writer_contents, AppendsPart, Appends, on_err, part_none}
use Rattle.cuts_core.proofs.ListingLemmas.{listed_more, listed_part}
use Rattle.cuts_core.proofs.listing.LinesSink.take.Goals as goal

-- a line by the same hash and name
same-line : (kind kind' : Sum) (name name' : List ℕ) (place : ℕ) (chunk : List ℕ) → kind ≡ kind' → name ≡ name'
    → chunk_line kind name place chunk ≡ chunk_line kind' name' place chunk
same-line kind kind' name name' place chunk is_kind is_name = ap₂ (λ (k : Sum) (n : List ℕ). chunk_line k n place chunk) is_kind is_name

pub returns-in_default-clause-err : goal.returns-in_default-clause-err
returns-in_default-clause-err g c start before (kind, name, listed, empty) = (
  kind,
  name,
  listed_part start.kind start.name.now start.place c.args.self.now.place c.args.self.now.place (writer_contents g.W.Write.contents start.w)
      (writer_contents g.W.Write.contents c.args.self.now.w) _ before c.args.chunk.now listed (part_none _ _),
  λ none. cc,
)

pub returns-in_err-write_out-in-Ok-clause-err : goal.returns-in_err-write_out-in-Ok-clause-err
returns-in_err-write_out-in-Ok-clause-err g c =
    let old = c.args.self.now in
    let contents = writer_contents g.W.Write.contents in
    on_err _ c.from_residual.result (λ start before (kind, name, listed, empty). (
      kind,
      name,
      listed_part start.kind start.name.now start.place old.place old.place (contents start.w)
          (contents old.w) (contents c.write_out.new.w) before c.args.chunk.now listed
          (subst (AppendsPart (contents old.w) (contents c.write_out.new.w)) (c.deref.ensures.value ∙ c.in-Ok.ensures
          ∙ same-line old.kind start.kind old.name.now start.name.now old.place c.args.chunk.now kind name)
          c.in_err-write_out-in-Ok.ensures.told.0),
      λ none. cc,
    ))

pub returns-in-Err-clause-err : goal.returns-in-Err-clause-err
returns-in-Err-clause-err g c start before (kind, name, listed, empty) = (
  kind,
  name,
  listed_part start.kind start.name.now start.place c.args.self.now.place c.args.self.now.place (writer_contents g.W.Write.contents start.w)
      (writer_contents g.W.Write.contents c.args.self.now.w) _ before c.args.chunk.now listed (part_none _ _),
  λ none. cc,
)

pub returns-clause-ok : goal.returns-clause-ok
returns-clause-ok g c start before (kind, name, listed, empty) =
    let old = c.args.self.now in
    let contents = writer_contents g.W.Write.contents in (
      kind,
      name,
      listed_more start.kind start.name.now start.place old.place c.in-Some.next (contents start.w)
          (contents old.w) (contents c.write_out.new.w) before c.args.chunk.now listed c.in-Some.ensures.1
          (subst (Appends (contents old.w) (contents c.write_out.new.w)) (c.deref.ensures.value ∙ c.in-Ok.ensures
          ∙ same-line old.kind start.kind old.name.now start.name.now old.place c.args.chunk.now kind name)
          c.in_ok-write_out-in-Ok.ensures.told),
      λ none held. search c.in_ok-write_out-in-Ok.ensures,
    )
