-- What the proofs of this crate share of std, of the crates below and of its own definitions, passed on from one place.
pub use Rattle.std.proofs.Common.{rules, Option, get_or, ◌∷◌, ◌≡◌, ◌<◌, ◌^◌, ℕ, List, length, true, None, arith, inl, inr, drop, fold, ◌++◌, map, option_map, find, take, ◌+◌, max, string_bytes, flat_map, ◌==◌, ◌∙◌, sym, ap, replicate, Err, subst, [], refl, take-append-drop, append-nil}
pub use Rattle.cli.specs.Call.{given, sayings, given_last, last_after, operands, value_after, value_of, wrongs, choices, has_letter, call_of, said_by, texts, wants_of, by_letters, by_name, Operand}
pub use Rattle.cli.specs.Help.{column, label, shown, in_column}
pub use Rattle.std.specs.Str.{IsUtf8, all_ascii_digits}
pub use Rattle.std.proofs.lemmas.Str.Parse.{IsNumeralModel, numerals_by_fold, parse_digits}
pub use Rattle.cli.specs.Numbers.{number_of}
pub use Rattle.std.specs.List.{slice_split}
