use Rattle.hash_fx.proofs.Common.{◌≡◌, fold, map, take, le, fx64_step}
use Rattle.hash_fx.proofs.words.eights_in.Given as goal

abbrev pub invariant-loop-eight : goal.invariant-loop-eight
invariant-loop-eight l = l.h ≡ fold fx64_step l.initial.h (map le (take l.eight-index l.eights))
