use Rattle.hash_fx.proofs.Common.{◌^◌, fold, map, rev_source, iter_rest, le, Undoing, fx64_step}
use Rattle.hash_fx.proofs.words.eights_out.Given as goal

abbrev pub invariant-loop-eight : goal.invariant-loop-eight
invariant-loop-eight l =
    Undoing (fold fx64_step) (2 ^ 64) l.initial.h l.h (map le (iter_rest (rev_source l.eight-iterator))) (map le l.fn.eights)
