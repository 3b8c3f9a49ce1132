-- What the proofs of this crate share of std, of the crates below and of its own definitions, passed on from one place.
pub use Rattle.std.proofs.Common.{◌≡◌, ◌<◌, ◌+◌, ℕ, ◌++◌, ◌∷◌, [], List, length, length-append, take, Bool, true, false, Option, Some, None, Result, Ok, Err, OnOk, IsTrue, inr, append-nil, arith, ap, refl, append_assoc, subst, sym, ◌∙◌, ◌-◌, ◌==◌, ◌||◌, ◌&&◌, not, if◌then◌else◌, IfOk, ap₂, nat_cmp, map, drop, get_or, rules, inl}
pub use Rattle.cuts_core.specs.Cut.{EndsFile, IsTorn, Opening, one, Cut, IsFileCut, given_of, is_whole, name_of}
pub use Rattle.cuts_core.specs.Counted.{CountsChunks, CountsFile, IsCounted, CountsMore}
pub use Rattle.cuts_core.specs.Listing.{AreListed, EndsLines, chunk_line, chunk_lines, ListsChunks, lines_of}
pub use Rattle.hash_lines.specs.declared.sums.Sum.{Sum}
pub use Rattle.hash_lines.specs.Sums.{sum_by}
pub use Rattle.std.specs.Io.Buffered.{writer_contents, writer_buffer}
pub use Rattle.cuts_core.specs.Tally.{AreCut, all_given, bytes_of, firsts, numbers_of, tally_lines}
pub use Rattle.std.specs.List.{concat, list_any}
pub use Rattle.streams.specs.declared.failure.Failure.{Failure}
pub use Rattle.cuts_core.specs.declared.failure.TooMany.{TooMany}
pub use Rattle.hash_cuts.specs.Cuts.{Cutting, chunks, first_cut}
pub use Rattle.streams.specs.Streams.{AppendsPart}
pub use Rattle.hash_cuts.specs.Reading.{CutsAll, CutsRead, IsBegun, Taken}
pub use Rattle.std.specs.Io.KnownBytes.{Appends}
pub use Rattle.streams.proofs.StreamLemmas.{part_behind, part_whole, on_err, part_none}
pub use Rattle.cli.specs.Files.{Opens}
pub use Rattle.cuts_core.specs.declared.tally.Tally.{Tally}
pub use denote.Ref.{Bor}
pub use Rattle.cli.specs.Told.{AreTold}
pub use Rattle.cli.proofs.ToldLemmas.{names_more, names_rest, told_next}
