-- What the proofs of this crate share of std, of the crates below and of its own definitions, passed on from one place.
pub use Rattle.std.proofs.Common.{◌≡◌, inl, inr, ℕ, zero, suc, Bool, true, false, if◌then◌else◌, List, [], ◌∷◌, map, fold, codes, Option, Some, None, IsSome, Contains, refl, sym, ap, ◌∙◌, subst, arith, option_map, bytes_eq, ◌*◌, ◌/◌, ◌%◌, ◌^◌, ◌<◌, nat_lt, length, slice_index, take, drop, All, lit<, ◌+◌, ◌++◌, Result, mod-lt, mod-eq_of_lt, ◌≢◌, ◌&&◌, nat_eq, Ok, Err, unwrap_or, ◌⊎◌, zero-lt-suc, Any, slice_index_or, get_or, take-append-drop, flat_map, rules, ◌≤◌, lit≤, ap₂, is_some, OnOk, OnErr, ◌-◌, length-drop, length-take-le, take-add, div-add-mod', Vec, slice_get, find, append-nil, append_assoc}
pub use Rattle.std.proofs.KnownBytes.{Keeps-refl, Appends-kept, Appends-nil, Appends-trans}
pub use Rattle.std.proofs.lemmas.Bool.{false≢true, or_left, or_right, and_parts, cases_lt}
pub use Rattle.std.proofs.lemmas.Bool.Decides.{nat_tests}
pub use Rattle.std.proofs.lemmas.List.{get_or-map, length-map, map-append, take_more}
pub use Rattle.std.proofs.lemmas.List.Elements.{All-drop, All-head, All-tail, All-take, All-contains, All-from_recursion, All-cons, All-nil, All-push}
pub use Rattle.std.proofs.lemmas.List.Sums.{fold-append}
pub use Rattle.std.proofs.lemmas.Nat.{mod_below, pow_pos, xor_lt}
pub use Rattle.std.specs.Char.{to_ascii_lowercase}
pub use Rattle.std.specs.Io.Buffered.{writer_contents, writer_buffer}
pub use Rattle.std.specs.Io.KnownBytes.{IsAtEnd, Appends, Keeps}
pub use Rattle.std.specs.IoError.{error_kind}
pub use Rattle.std.specs.List.{AllByRecursion, range_with_len}
pub use Rattle.std.specs.declared.io.Error.{Error}
pub use Rattle.cli.specs.Call.{Saying, given, value_after, value_of, operands, Choice}
pub use Rattle.cli.specs.Files.{Opens, files_or}
pub use Rattle.hash_jenkins.specs.Lookup3.{AreTwoWords, lookup3_answer, lookup3_from}
pub use Rattle.hash_jenkins.specs.Lookup3Laws.{lookup3-AreTwoWords}
pub use Rattle.hash_keyed.specs.Poly61.{prime61, poly_hash}
pub use Rattle.hash_kinds.specs.Named.{name_of, read_of, bits_of, hash_of}
pub use Rattle.hash_kinds.specs.Wide.{murmur3_128_of, both}
pub use Rattle.hash_kinds.specs.declared.table.Kind.{Kind}
pub use Rattle.hash_kinds.specs.declared.table.Kind.TheVariants.{Ported, Murmur3At32, Xxh32, Crc32, Crc32c, Djb2Add, Fnv1At32, Fnv1At64, Joaat, Elf, Xxh64, Murmur3, SipHash13, SipHash24, Xxh3}
pub use Rattle.hash_lines.specs.Line.{digits_of}
pub use Rattle.hash_lines.specs.Told.{Tells, AreTags, IsTag, are_tags}
pub use Rattle.hash_names.specs.declared.table.Ported.TheVariants.{Fnv1a32, Bricolage, Djb2, Fnv1a64, LoseLose, Oaat, Sdbm, FxHash, FxHash32, FxHash64, Lookup3, Spooky, SpookyV1, PassThrough, Null}
pub use Rattle.hashers.specs.DifferWithin.{DifferAtOnePlace, DifferWithin}
pub use Rattle.hashers.specs.Text.{texts}
pub use Rattle.streams.proofs.StreamLemmas.{part_behind, part_whole, part_none}
pub use Rattle.streams.specs.Streams.{AppendsPart, WritesOut}
pub use Rattle.streams.specs.declared.failure.Failure.{Failure}
pub use Rattle.streams.specs.declared.failure.Failure.TheVariants.{Unwritten, NoMemory}
pub use Rattle.streams.specs.declared.failure.Nothing.{Nothing}
pub use Rattle.text_set.specs.Lines.{lines_by, ReadsNext}
pub use lib.Pointwise.{bytes_decides}
unfoldable pub use Rattle.hash_lines.specs.Sums.{kinds, number_named}
pub use Rattle.hash_lines.specs.Sums.{is_named, kind_of, poly61_at_both, siphash24_at, sum_of, width_in, name_in, takes_keys, wide_name, wide_of, width_of}
pub use Rattle.hashsum_core.specs.Checking.{TellsAny, IsVerdict, is_not_found, counted, passes, is_itself, is_skipped, takes_sfv, verdict_on, IsLineCheck}
pub use Rattle.hashsum_core.specs.Lists.{counts_of, said_of, uncounted, AreFirstLines, AreLines, EndsLine, EndsList, IsLineCheckOf, AreListed, EndsListOf, EndsLists, bare}
pub use Rattle.hashsum_core.specs.Program.{asked, asks_for, asks_for_keyed, asks_for_poly61, asks_for_siphash24, is_by_name, key_file, key_rule, misuse_of, checking_of, summing_of, taken, work_by, work_of, EndsCall, EndsTask, EndsUnless}
pub use Rattle.hashsum_core.specs.declared.check.Checking.{Checking}
pub use Rattle.hashsum_core.specs.Passed.{fails, is_same, HasPassed, HasHash, LineTells, ListTells}
pub use Rattle.hash_laws.specs.Text.{IsText}
pub use Rattle.hashsum_core.specs.Files.{ReadsFile, SumsFile, sum_under}
pub use Rattle.hashsum_core.specs.Laws.{HoldsOnly, NeverPasses, DifferAtOneWord}
pub use Rattle.hashsum_core.specs.declared.check.LineCheck.{LineCheck}
pub use Rattle.cli.specs.Told.{AreTold, AreTornOff}
pub use Rattle.hash_lines.specs.declared.sums.Sum.{Sum}
pub use Rattle.hashsum_core.specs.Ended.{GivesKeys, HasEndedWell}
pub use Rattle.hashsum_core.specs.Keys.{AreKeysFor, ArePoly61Keys, MayBeKeys}
pub use Rattle.hashsum_core.specs.declared.check.Verdict.TheVariants.{Same, Different, Unread, Missing}
pub use Rattle.hashsum_core.specs.declared.sum.Unsummed.TheVariants.{Unhashed, Unopened}
unfoldable pub use Rattle.hash_kinds.specs.Named.{kind_named}
pub use Rattle.hashsum_core.specs.declared.check.Counts.{Counts}
pub use Rattle.hashsum_core.specs.Lists.AreListed.{next_list, no_list}
pub use denote.Ref.{Bor}
pub use Rattle.hash_lines.specs.declared.sums.Wide.{Wide}
pub use Rattle.hashsum_core.specs.Summing.{IsSummed, line_told}
pub use Rattle.std.proofs.lemmas.Grind.{common_steps}
pub use Rattle.cli.proofs.ToldLemmas.{told_next, told_start, torn_kept, torn_within, names_more, names_rest}
pub use Rattle.hash_theorems.proofs.RangeLemmas.{murmur3_below, spooky_below, spooky_v1_below, xxh3_below, xxh128_below}
