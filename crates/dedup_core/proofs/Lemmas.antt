-- What the answers of this crate share of its lemmas, with what Common passes on.
pub use Rattle.dedup_core.proofs.Common.{◌≡◌, take, ap, length, sym, subst, ◌∙◌, arith, take_more_set, AreNext, ℕ, List, [], ◌∷◌, ◌++◌, rules, common_steps, first_strip, on_err, false, refl, true, Appends-nil, Keeps-refl, once_begins, IsBare, Splits, writer_buffer, writer_contents, At, Leads, ◌<◌, map, eqb-false, bare_line, strip_bare, set, StandsAt, has, with_text, Tallies, styled_decimal, Appends-kept, part_whole, told, run_of, drop, Appends, Appends-trans, drop_all, part_behind, part_longer, append_assoc, Consumes-trans, length-take, ◌-◌, Result, Ok, Err, IfOk, length-drop, length-take-le}
pub use Rattle.dedup_core.proofs.AheadLemmas.{behind, behind_more, behind_within, found_more}
pub use Rattle.dedup_core.proofs.InputLemmas.{lines_of_whole, part_at_start, part_within, so_far_more, so_far_start, SoFar, breaks_behind_all, ends_broken}
pub use Rattle.dedup_core.proofs.OrderLemmas.{listed, listed_more, listed_told}
pub use Rattle.dedup_core.proofs.RunLemmas.{leads_both, leads_nowhere, splits_both, splits_line, splits_nowhere, stands_on, breaks_before, bare_nothing, bare_rest, begins_all, breaks_behind, breaks_within, leads_kept, reads_on, reads_to_end, reads_to_fault, takes_on, Reads}
pub use Rattle.dedup_core.proofs.SeenLemmas.{is_there, not_there, stops_in_line, takes_line, at_ok}
pub use Rattle.dedup_core.proofs.UnreadLemmas.{bare_both, found_end, found_none, pass_more, read_put}
