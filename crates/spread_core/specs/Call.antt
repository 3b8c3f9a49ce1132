-- Which options there are, and how the program ends.
use Rattle.std.specs.Prelude.{ℕ, suc, Bool, true, false, not, List, [], ◌∷◌, Option, Some, None, Result, Ok, Err, codes, map, option_map}
use Rattle.std.specs.Int.NonZero.{non_zero_usize_get}
use Rattle.std.specs.Char.{to_ascii_lowercase}
use Rattle.std.specs.List.{filter_map, find}
use Rattle.std.specs.Option.{is_none}
use Rattle.std.specs.Str.{bytes_eq}
use Rattle.cli.specs.Call.{Choice, Saying, flag, given, operands, taking, value_of}
use Rattle.cli.specs.Numbers.{number_of}
use Rattle.cli.specs.declared.outcome.Wrong.{Wrong}
use Rattle.cli.specs.declared.outcome.Wrong.TheVariants.{Own}
use Rattle.hash_kinds.specs.Named.{name_of}
use Rattle.hash_kinds.specs.declared.table.Kind.{Kind}
use Rattle.hash_kinds.specs.declared.table.TheConstants.{KINDS}
use Rattle.hash_kinds.specs.declared.table.Kind.TheVariants.{Ported, Xxh64, Murmur3At32, SipHash13, Xxh3}
use Rattle.hash_names.specs.declared.table.Ported.TheVariants.{Fnv1a32, Fnv1a64, Djb2, Sdbm, LoseLose, Bricolage, Oaat, Lookup3, Spooky, PassThrough, FxHash, FxHash32}
use Rattle.spread_core.specs.declared.call.Settings.{Settings}
use Rattle.spread_core.specs.declared.keys.Layout.{Layout}
use Rattle.spread_core.specs.declared.keys.Layout.TheVariants as layout
use Rattle.spread_core.specs.declared.call.Misuse.{Misuse}
use Rattle.spread_core.specs.declared.call.Misuse.TheVariants as misuse
use Rattle.spread_core.specs.declared.failure.NoTable.{NoTable}
use Rattle.spread_core.specs.declared.failure.NoTable.TheVariants.{Undrawn, TooManyKeys, NoKeys, ShortKey}

-- the options
abbrev pub options : List Choice
options = taking (Some 98) (codes "buckets") ∷ taking (Some 119) (codes "width") ∷ flag (Some 122) (codes "zero-terminated")
    ∷ flag None (codes "no-times") ∷ taking None (codes "plot") ∷ flag None (codes "list") ∷ flag None (codes "help")
    ∷ flag None (codes "version") ∷ []

-- the number from 1 on that a word writes
abbrev pub positive : List ℕ → Option ℕ
positive word = of (number_of word)
  where
    of : Option ℕ → Option ℕ
    of (Some (suc n)) = Some (suc n)
    of other = None

-- what a call gives by an option that takes such a number: nothing, or the number, or what is none
abbrev pub given_by : Option (List ℕ) → Option (Option ℕ)
given_by None = Some None
given_by (Some word) = option_map Some (positive word)

abbrev pub given_number : (name : List ℕ) (call : List Saying) → Option (Option ℕ)
given_number name call = given_by (value_of name call)

-- how keys lie in the input: each with this byte behind it, or each of so many bytes
pub data Laid : Type 0 where
  Ended : (end : ℕ) → Laid
  Wide : (width : ℕ) → Laid

abbrev pub laid : Layout → Laid
laid (layout.Lines end) = Ended end
laid (layout.Fixed width) = Wide (non_zero_usize_get width)

-- a call that says that zero bytes end keys gives no width; with neither newlines end them
abbrev pub layout_of : (zeros : Bool) (width : Option ℕ) → Option Laid
layout_of true (Some width) = None
layout_of true None = Some (Ended 0)
layout_of false (Some width) = Some (Wide width)
layout_of false None = Some (Ended 10)

-- the table that is wanted
pub record Wanted : Type 0 where
  pub buckets : Option ℕ
  pub layout : Laid
  pub times : Bool

abbrev pub wanted : Settings → Wanted
wanted settings = record {
  buckets = option_map non_zero_usize_get settings.buckets;
  layout = laid settings.layout;
  times = settings.times;
}

abbrev pub wanted_by : (buckets : Option ℕ) (times : Bool) → Option Laid → Result Wanted (Wrong Misuse)
wanted_by buckets times None = Err (Own misuse.TwoLayouts)
wanted_by buckets times (Some laid) = Ok (record { buckets = buckets; layout = laid; times = times })

abbrev pub settings_by : (buckets width : Option (Option ℕ)) (zeros times : Bool) → Result Wanted (Wrong Misuse)
settings_by (Some buckets) (Some width) zeros times = wanted_by buckets times (layout_of zeros width)
settings_by buckets width zeros times = Err (Own misuse.NoNumber)

-- the table that a call wants, or what is wrong with the call
abbrev pub settings_of : (call : List Saying) → Result Wanted (Wrong Misuse)
settings_of call = settings_by (given_number (codes "buckets") call) (given_number (codes "width") call)
    (given (codes "zero-terminated") call) (not (given (codes "no-times") call))

-- the hashes that stand in the table where none is named: the others spread as another does, not at all, or are for files
abbrev pub usual : List Kind
usual = Ported Fnv1a32 ∷ Ported Fnv1a64 ∷ Ported Djb2 ∷ Ported Sdbm ∷ Ported LoseLose ∷ Ported Bricolage ∷ Ported Oaat ∷ Ported Lookup3 ∷ Ported Spooky ∷ Ported PassThrough ∷ Ported FxHash ∷ Ported FxHash32 ∷ Xxh64 ∷ Murmur3At32
    ∷ SipHash13 ∷ Xxh3 ∷ []

-- whether a hash has the name, in letters of either case
abbrev pub is_called : (name : List ℕ) → Kind → Bool
is_called name kind = bytes_eq (map to_ascii_lowercase (name_of kind)) (map to_ascii_lowercase name)

-- the hash of that name, if there is one
unfoldable pub kind_called : (name : List ℕ) → Option Kind
kind_called name = find (is_called name) KINDS

-- the hashes of these names, in their order; the usual ones if there is no name
abbrev pub kinds_named : (names : List (List ℕ)) → List Kind
kinds_named [] = usual
kinds_named (name ∷ more) = filter_map kind_called (name ∷ more)

abbrev pub kinds_of : (call : List Saying) → List Kind
kinds_of call = kinds_named (operands call)

-- the first name that no hash has
abbrev pub unknown_name : (call : List Saying) → Option (List ℕ)
unknown_name call = find (λ name. is_none (kind_called name)) (operands call)

-- what the program says on standard error of what only it finds wrong with a call
abbrev pub words_of : Misuse → List ℕ
words_of misuse.NoNumber = codes "invalid number"
words_of misuse.TwoLayouts = codes "-z does not go with -w"
words_of misuse.NoHash = codes "keys come from standard input, and there is no hash"

-- and of its own faults
abbrev pub words_of_fault : NoTable → List ℕ
words_of_fault (Undrawn error) = codes "cannot write"
words_of_fault TooManyKeys = codes "too many different keys"
words_of_fault NoKeys = codes "there are no keys"
words_of_fault ShortKey = codes "input ends within a key"
