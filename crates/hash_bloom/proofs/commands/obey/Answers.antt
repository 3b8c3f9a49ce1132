use Rattle.hash_bloom.proofs.commands.obey.Goals as goal

pub returns-in-Insert : goal.returns-in-Insert
returns-in-Insert g c = rw c.in-Insert.is (rw c.deref.ensures.value at c.insert.ensures.inserted)

pub returns-in-Union : goal.returns-in-Union
returns-in-Union g c = rw c.in-Union.is c.union.ensures.united
