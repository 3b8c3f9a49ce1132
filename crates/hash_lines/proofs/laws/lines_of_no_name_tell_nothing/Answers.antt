use Rattle.hash_lines.proofs.Lemmas.{[], sym, line_of, line_shows_one, has_name, line_shows, line_shown}
use Rattle.hash_lines.proofs.laws.lines_of_no_name_tell_nothing.Goals as goal

pub returns : goal.returns
returns c kinds default kind form are may escapes number small other more count tells =
    let line = line_of form escapes kind [] number in
    let one = line_shows_one kinds default are kind other [] more number count line
    (line_shown kinds default kind form may escapes [] number small) (line_shows kinds default other more count line tells) in
    has_name kinds default other more count line tells (sym one.1)
