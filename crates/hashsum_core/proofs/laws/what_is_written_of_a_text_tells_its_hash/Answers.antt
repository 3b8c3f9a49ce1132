use Rattle.hashsum_core.proofs.Common.{sum_of}
use Rattle.hashsum_core.proofs.laws.what_is_written_of_a_text_tells_its_hash.Goals as goal

pub returns : goal.returns
returns c keys kinds default kind form may first second escapes name text named is =
    c.written_lines_tell.ensures kinds default kind form may escapes name (sum_of keys kind text) named
    (c.each_number_has_its_digits.ensures keys kind text first second is)
