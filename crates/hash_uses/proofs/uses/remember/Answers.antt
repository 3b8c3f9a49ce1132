use Rattle.hash_uses.proofs.uses.remember.Goals as goal

pub returns-clause-before : goal.returns-clause-before
returns-clause-before g c = c.insert.ensures.ok

pub returns-clause-after : goal.returns-clause-after
returns-clause-after g c = c.insert.ensures.inserted

pub returns-clause-unchanged : goal.returns-clause-unchanged
returns-clause-unchanged g c = c.insert.ensures.unchanged
