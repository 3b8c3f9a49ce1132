use Rattle.hash_uses.proofs.uses.bloom_hashes.Goals as goal

pub returns-clause-first : goal.returns-clause-first
returns-clause-first c = c.fnv1a64.ensures

pub returns-clause-second : goal.returns-clause-second
returns-clause-second c = c.oaat.ensures
