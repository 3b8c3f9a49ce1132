use Rattle.hashsum_core.proofs.laws.seen.Goals as goal

pub returns-in-Table : goal.returns-in-Table
returns-in-Table g c = rw c.in-Table.is c.seen_in_table.ensures

pub returns-in-Poly61 : goal.returns-in-Poly61
returns-in-Poly61 g c = rw c.in-Poly61.is c.few_pairs_pass_another_text.ensures
