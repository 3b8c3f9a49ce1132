use Rattle.text_set.proofs.Common.{List, ℕ, length, arith, ap, get_or_default, cut, ◌≡◌, ◌<◌}
use Rattle.text_set.proofs.StoreLemmas.{cut_at, length_cut, within}
use Rattle.text_set.proofs.store.Store.get.Goals as goal

-- a place among the texts is one among their ends
place_in : (bytes ends : List ℕ) (texts : List (List ℕ)) (place : ℕ) → cut 0 bytes ends ≡ texts → place < length texts
    → place < length ends
place_in bytes ends texts place is below = omega (arith, below, length_cut 0 bytes ends, ap length is)

pub start_of-start-requires : goal.start_of-start-requires
start_of-start-requires c = omega (arith, place_in _ _ _ _ c.self.view_is c.requires, ap length c.deref.ensures.value)

pub index-end-requires : goal.index-end-requires
index-end-requires c = omega (arith, place_in _ _ _ _ c.self.view_is c.requires, c.self.inside.ends.ok.0)

pub text_between-requires : goal.text_between-requires
text_between-requires c = grind (arith, place_in, within, get_or_default)

pub returns : goal.returns
returns c = grind (arith, place_in, get_or_default, cut_at)
