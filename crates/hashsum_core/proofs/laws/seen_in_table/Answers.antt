use Rattle.hashsum_core.proofs.Common.{inl, inr}
use Rattle.hashsum_core.proofs.laws.seen_in_table.Goals as goal

pub returns-in-Ported : goal.returns-in-Ported
returns-in-Ported g c = rw c.in-Ported.is c.seen_in_ported.ensures

pub returns-in-Fnv1At32 : goal.returns-in-Fnv1At32
returns-in-Fnv1At32 g c = rw c.in-Fnv1At32.is assumption

pub returns-in-Fnv1At64 : goal.returns-in-Fnv1At64
returns-in-Fnv1At64 g c = rw c.in-Fnv1At64.is assumption

pub returns-in-Djb2Add : goal.returns-in-Djb2Add
returns-in-Djb2Add g c = rw c.in-Djb2Add.is assumption

pub returns-in-Crc32 : goal.returns-in-Crc32
returns-in-Crc32 g c = elim c.in-Crc32.is [ inl is ↦ rw is assumption | inr is ↦ rw is assumption ]

pub returns-in-Murmur3At32 : goal.returns-in-Murmur3At32
returns-in-Murmur3At32 g c = elim c.in-Murmur3At32.is [
  | inl is ↦ rw is (inr (inl assumption))
  | inr is ↦ rw is (inr (inr assumption))
]

pub returns-in-Joaat : goal.returns-in-Joaat
returns-in-Joaat g c = rw c.in-Joaat.is assumption
