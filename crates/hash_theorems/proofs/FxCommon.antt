-- What the proofs of this crate share of std, of the crates below and of its own definitions, passed on from one place.
pub use Rattle.std.proofs.Common.{ℕ, zero, suc, ◌≡◌, ◌+◌, ◌*◌, ◌/◌, ◌%◌, ◌<◌, ◌≤◌, List, ◌++◌, length, take, drop, map, get_or, refl, ap, ◌∙◌, arith, drop-drop, get_or-drop, length-drop, Bor, [], ◌∷◌, sym, All, ap₂, ◌≢◌, ◌==◌, if◌then◌else◌, zero-add, add-zero, inl, inr, ◌^◌, bit_xor, ◌-◌, ◌⊎◌, slice_index, ext_get_or, take_at, drop_at, fold, subst, lit<, flat_map, ◌↔◌, Bool, true, false, not, nat_eq, IsTrue, MatchBool, min, length-take, take-append-drop, map-id, rules}
pub use Rattle.std.proofs.lemmas.Bool.{cases_eq, eq-eqb, ne_eqb, not-false, both_ways, OnTrue_at, OnTrue_from, eqb-true}
pub use Rattle.std.proofs.lemmas.List.{map_more, map_push, get_or-map, length-map, length-take-le, drop_all, drop_more, get_or-take}
pub use Rattle.std.proofs.lemmas.List.Elements.{All-push, All-nil, All-head, All-tail, All-append, All-take, All-drop}
pub use Rattle.std.proofs.lemmas.Nat.{xor_lt, mod_below, pow_pos, xor_mod, mul-mod}
pub use Rattle.std.specs.Simd.{first_chunks}
pub use Rattle.hash_fx.proofs.FixedWidths.{of_byte, words32-byte, words32-four, of_two, fx32_of_four, fx32_of_eight, words64-byte, words64-four, words64-eight, fx64_of_four, fx64_of_eight}
pub use Rattle.hash_fx.proofs.WordParts.{words64-parts, words32-parts}
pub use Rattle.hash_fx.specs.Fx.{words32, words64, fx32, fx32_step, fx64, fx64_step}
pub use Rattle.hash_fx.specs.FxLaws.{IsWord, words32-fit, words64-fit, fx64_nothing, fx32_nothing}
pub use Rattle.hash_fx.specs.FxStepLaws.{fx32_facts, fx64_facts}
pub use Rattle.hash_laws.specs.RecurrenceLaws.{recurrence-fold, recurrence-append, recurrence-pieces}
pub use Rattle.hash_laws.specs.TextLaws.{IsText-le_bytes, joined_more, IsByte}
pub use Rattle.hash_laws.specs.StepFacts.{StepFacts}
pub use Rattle.hash_laws.specs.Text.{IsText, texts, joined}
pub use Rattle.hash_words.proofs.PieceLemmas.{le-lt, le-same}
pub use Rattle.hash_theorems.specs.Differences.{differences}
pub use Rattle.hash_fx.specs.Pieces.{AreWhole, DifferByOneByte, DifferByOneWord, fx32_pieces, fx64_pieces}
unfoldable pub use Rattle.hash_laws.specs.Recurrence.{recurrence}
unfoldable pub use Rattle.hash_words.specs.Pieces.{pieces}
unfoldable pub use Rattle.hash_words.specs.Words.{le, rotl}
unfoldable pub use Rattle.std.specs.Hash.{le_bytes}
pub use Rattle.std.proofs.lemmas.Grind.{common_steps}
pub use Rattle.std.proofs.lemmas.Bool.Decides.{nat_tests}
