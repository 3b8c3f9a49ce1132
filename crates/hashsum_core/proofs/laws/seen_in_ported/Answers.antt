use Rattle.hashsum_core.proofs.Common.{inl, inr}
use Rattle.hashsum_core.proofs.laws.seen_in_ported.Goals as goal

pub returns-in-Fnv1a32 : goal.returns-in-Fnv1a32
returns-in-Fnv1a32 g c = rw c.in-Fnv1a32.is assumption

pub returns-in-Fnv1a64 : goal.returns-in-Fnv1a64
returns-in-Fnv1a64 g c = elim c.in-Fnv1a64.is [ inl is ↦ rw is assumption | inr is ↦ rw is assumption ]

pub returns-in-Djb2 : goal.returns-in-Djb2
returns-in-Djb2 g c = rw c.in-Djb2.is assumption

pub returns-in-FxHash : goal.returns-in-FxHash
returns-in-FxHash g c = elim c.in-FxHash.is [ inl is ↦ rw is assumption | inr is ↦ rw is assumption ]

pub returns-in-LoseLose : goal.returns-in-LoseLose
returns-in-LoseLose g c = elim c.in-LoseLose.is [
  | inl is ↦ rw is assumption
  | inr more ↦ elim more [ inl is ↦ rw is assumption | inr is ↦ rw is assumption ]
]
