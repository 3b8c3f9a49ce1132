use Rattle.std.proofs.Common.{rules, ap, map, string_bytes}
use Rattle.hashof.proofs.Calls.{two_items}
use Rattle.hashof.proofs.outcome.outcome_limited.Goals as goal

pub returns-in-Ok-run_limited : goal.returns-in-Ok-run_limited
returns-in-Ok-run_limited g c =
    let (own, are) = two_items c.in-Ok.args c.next-program.new.self c.next.new.self c.next-in-Ok.new.self c.next-program.result
    c.in-Some-None.name
    c.next-program.ensures.cases c.in-Some-None.ensures.cases c.in-Some-None.ensures'.cases (search rules) in
    (string_bytes c.in-Some-None.name, rw c.in-Ok.is (string_bytes own, ap (map string_bytes) are), search rules)

pub returns-in-Some-None : goal.returns-in-Some-None
returns-in-Some-None g c =
    let (own, are) = two_items c.in-Ok.args c.next-program.new.self c.next.new.self c.next-in-Ok.new.self c.next-program.result
    c.in-Some-None.name
    c.next-program.ensures.cases c.in-Some-None.ensures.cases c.in-Some-None.ensures'.cases (search rules) in
    (string_bytes c.in-Some-None.name, rw c.in-Ok.is (string_bytes own, ap (map string_bytes) are), search rules)
