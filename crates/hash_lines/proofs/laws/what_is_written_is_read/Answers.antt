use Rattle.hash_lines.proofs.Lemmas.{line_of, line_shows_one, line_shows, line_shown}
use Rattle.hash_lines.proofs.laws.what_is_written_is_read.Goals as goal

pub returns : goal.returns
returns c kinds default kind form are may escapes name number small other more count tells =
    let line = line_of form escapes kind name number in
    line_shows_one kinds default are kind other name more number count line
    (line_shown kinds default kind form may escapes name number small) (line_shows kinds default other more count line tells)
