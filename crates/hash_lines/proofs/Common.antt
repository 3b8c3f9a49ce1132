-- What the proofs of this crate share of std, of the crates below and of its own definitions, passed on from one place.
pub use Rattle.std.proofs.Common.{◌≡◌, ◌≢◌, ℕ, ◌+◌, ◌<◌, List, [], ◌∷◌, ◌++◌, length, take, get_or, ap, sym, ◌∙◌, append_assoc, append-nil, arith, inl, inr, Bool, true, false, All, Option, Some, None, MatchOption, Vec, refl, subst, Global, ◌⊎◌, ◌-◌, ◌*◌, ◌/◌, ◌%◌, ◌^◌, ◌≤◌, suc, zero, drop, set, lit<, add-one, mul_assoc, codes, bytes_eq, Contains, ◌||◌, not, map, ◌&&◌, rules, take_all, below_more, eqb-true, fold, find, length-drop, length-take-le, take-add, div-add-mod'}
pub use Rattle.hash_lines.specs.Told.{Finds, Tells, TellsNothing, AreTags, IsTag, IsShown, TellsBody, are_tags, is_tag, FindsShown, MayBeTold, TellsOf, TellsUntagged, TellsTagged, TellsEscaped}
pub use Rattle.hash_lines.specs.Line.{ShowsNumber, ShowsTagged, ShowsUntagged, digits_of, name_shown, body, line_of, mark}
pub use Rattle.hash_lines.specs.Escape.{escape, escaped_byte, needs_escape}
pub use Rattle.streams.specs.Hex.{digit_value, hex, hex_value, value_behind}
pub use Rattle.std.proofs.lemmas.Result.{IfOk-weaker}
pub use Rattle.hash_lines.specs.declared.sums.Sum.{Sum}
pub use Rattle.hash_lines.specs.Forms.{is_sum, EndsInDigits, FindsForm, FindsOf, HasCrc, HasTag, HasWord, IsBlankForm, IsForm, IsSfvForm, IsTaggedForm, Lacks, TellsIn, TellsNoneIn, TellsSo}
pub use Rattle.std.proofs.lemmas.Bool.Decides.{nat_tests}
pub use Rattle.std.proofs.lemmas.List.{take_more, drop-set, drop_all, length-append, append_cancel_left, get_or_default}
pub use Rattle.std.specs.Char.{is_ascii_whitespace, to_ascii_lowercase}
pub use Rattle.std.proofs.lemmas.List.Elements.{All-head, All-tail, All-from_recursion, All-more}
pub use Rattle.hash_lines.specs.declared.parse.HashLine.{HashLine}
pub use denote.Ref.{Bor}
pub use lib.Pointwise.{bytes_decides}
pub use Rattle.std.specs.List.{AllByRecursion, list_any}
pub use Rattle.hash_lines.specs.Sums.{is_named, name_in, width_in}
pub use Rattle.std.proofs.lemmas.Bool.{cases_lt, and_parts}
pub use Rattle.std.proofs.lemmas.List.Sums.{fold-append}
pub use Rattle.hashers.specs.Reading.{cut}
pub use Rattle.std.proofs.lemmas.Grind.{common_steps}
pub use Rattle.streams.proofs.HexLemmas.{cases_Option, hex_value-hex, length-hex}
