use Rattle.std.proofs.lemmas.Result.{IfOk-weaker, IfErr-weaker}
use Rattle.hash_laws.proofs.ReadingLemmas.{HashesRead-fed}
use Rattle.hash_laws.proofs.KnownText.{at_each, HashesFirst-read, StandsFirst-read, HashesAll-read, HashesFirst-limit, StandsFirst-limit, count_known, ended_known}
use Rattle.hash_laws.proofs.reading.reader.hash_stream.Goals as goal

pub returns-clause-taken : goal.returns-clause-taken
returns-clause-taken g c =
    IfOk-weaker c.hash_reader.result _ _ (λ taken. HashesRead-fed _ _ g.met.H.Piecewise.after_in_range g.met.H.Piecewise.after_nothing
    g.met.H.Streamed.after_joined g.H.Piecewise.state g.H.Streamed.stands_at g.met.H.Streamed.stands_after _ _ _ _ _ _ c.requires.not_empty
    c.state_in_range.ensures) c.hash_reader.ensures.taken

pub returns-clause-fault : goal.returns-clause-fault
returns-clause-fault g c =
    IfErr-weaker c.hash_reader.result _ _ (λ fault. HashesRead-fed _ _ g.met.H.Piecewise.after_in_range g.met.H.Piecewise.after_nothing
    g.met.H.Streamed.after_joined g.H.Piecewise.state g.H.Streamed.stands_at g.met.H.Streamed.stands_after _ _ _ _ _ _ c.requires.not_empty
    c.state_in_range.ensures) c.hash_reader.ensures.fault

pub returns-clause-first_taken : goal.returns-clause-first_taken
returns-clause-first_taken g c =
    IfOk-weaker c.hash_reader.result _ _ (λ taken. HashesFirst-read _ _ _ _ _ _ _ _) (returns-clause-taken g c)

pub returns-clause-first_fault : goal.returns-clause-first_fault
returns-clause-first_fault g c =
    IfErr-weaker c.hash_reader.result _ _ (λ fault. HashesFirst-read _ _ _ _ _ _ _ _) (returns-clause-fault g c)

pub returns-clause-stands_fault : goal.returns-clause-stands_fault
returns-clause-stands_fault g c =
    IfErr-weaker c.hash_reader.result _ _ (λ fault. StandsFirst-read _ _ _ _ _ _ _ _) (returns-clause-fault g c)

-- the facts of what was taken: what was read, and how it ended
pub returns-clause-all : goal.returns-clause-all
returns-clause-all g c =
    let ran = c.hash_reader.ensures in
    at_each c.hash_reader.result (returns-clause-taken g c) ran.within ran.at_limit ran.nothing_left
    (λ taken read within met left ended. HashesAll-read _ _ _ _ _ _ _ _ read (left ended))

pub returns-clause-up_to_limit : goal.returns-clause-up_to_limit
returns-clause-up_to_limit g c =
    let ran = c.hash_reader.ensures in
    at_each c.hash_reader.result (returns-clause-taken g c) ran.within ran.at_limit ran.nothing_left
    (λ taken read within met left. HashesFirst-limit _ _ _ _ _ _ _ _ read _ _ within met left)

pub returns-clause-stands : goal.returns-clause-stands
returns-clause-stands g c =
    let ran = c.hash_reader.ensures in
    at_each c.hash_reader.result (returns-clause-taken g c) ran.within ran.at_limit ran.nothing_left
    (λ taken read within met left. StandsFirst-limit _ _ _ _ _ _ _ _ read _ _ within met left)

pub returns-clause-count : goal.returns-clause-count
returns-clause-count g c =
    let ran = c.hash_reader.ensures in
    at_each c.hash_reader.result (returns-clause-taken g c) ran.within ran.at_limit ran.nothing_left
    (λ taken read within met left. count_known _ _ _ _ _ _ _ _ read _ _ within met left)

pub returns-clause-short : goal.returns-clause-short
returns-clause-short g c =
    let ran = c.hash_reader.ensures in
    at_each c.hash_reader.result (returns-clause-taken g c) ran.within ran.at_limit ran.nothing_left
    (λ taken read within met left. ended_known _ _ _ _ _ _ _ _ read _ _ within met left)
