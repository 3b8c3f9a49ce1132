use Rattle.std.proofs.Common.{◌≡◌, ℕ, Option, Some, None, sym, refl, length, slice_get}
use Rattle.std.proofs.lemmas.Option.{slice_get_read, slice_get_past}
use Rattle.hash_c.specs.Kinds.{kind_at}
use Rattle.hash_kinds.specs.declared.table.Kind.{Kind}
use Rattle.hash_kinds.specs.declared.table.TheConstants.{KINDS}
use Rattle.hash_c.proofs.kinds.kind_at.Goals as goal

is_kind_at : (number : ℕ) (kind : Option Kind) → slice_get KINDS number ≡ kind → kind ≡ kind_at number
unfolding kind_at
is_kind_at number kind is = sym is

pub returns-in-Some : goal.returns-in-Some
returns-in-Some c =
    let found = c.in-Some.ensures.lookup in
    is_kind_at c.args.number (Some c.in-Some.kind.now)
    (slice_get_read KINDS (length KINDS) c.args.number c.in-Some.kind.now refl found.3.0 found.1)

pub returns-in-None : goal.returns-in-None
returns-in-None c = is_kind_at c.args.number None (slice_get_past KINDS c.args.number c.in-None.ensures.lookup.3)
