use Rattle.hashsum_core.proofs.Common.{◌≡◌, Bool, true, false, map, refl, are_tags, kinds, name_in}
use Rattle.hashsum_core.proofs.laws.kinds_are_tags.Goals as goal

-- by computing
names_are_tags : (keyed : Bool) → are_tags (map name_in (kinds keyed)) ≡ true
unfolding kinds
names_are_tags false = refl
names_are_tags true = refl

pub returns : goal.returns
returns c keyed default = c.tags_by_their_names.ensures (kinds keyed) default (names_are_tags keyed)
