-- What the answers of this crate share of its lemmas, with what Common passes on.
pub use Rattle.hash_lines.proofs.Common.{arith, ◌++◌, take, get_or, append_assoc, ap, sym, ◌∙◌, escape, escaped_byte, rules, is_sum, ◌≡◌, ◌≤◌, false, All, length, subst, take_all, is_ascii_whitespace, All-more, IfOk-weaker, IsBlankForm, IsTaggedForm, true, inl, inr, IsSfvForm, lit<, ◌+◌, ◌-◌, ◌<◌, suc, drop, hex, [], line_of, codes, bytes_decides, below_more, TellsBody, TellsOf, TellsUntagged, get_or_default, ◌∷◌, TellsEscaped, eqb-true, Tells, digits_of, ShowsTagged, ShowsUntagged, name_in, width_in}
pub use Rattle.hash_lines.proofs.EscapeLemmas.{escape-take, no_name, escape_more}
pub use Rattle.hash_lines.proofs.FormLemmas.{word_one, no_word, blank_plain_one, form_found, found_in, tagged_plain_one, sfv_plain_one, so_found, start_one, crc_found, no_crc, no_close, no_equals, no_open}
pub use Rattle.hash_lines.proofs.LineLemmas.{joined_three, middle_is, told_apart, front_is, behind_both, tagged_shown, no_mark, no_digits, untagged_shown, no_spaces, no_first_digits}
pub use Rattle.hash_lines.proofs.OneLemmas.{line_one, line_shows_one}
pub use Rattle.hash_lines.proofs.ShownLemmas.{has_name, line_shows, line_tells, none_shown}
pub use Rattle.hash_lines.proofs.TellsLemmas.{line_shown, found_as, found_by}
