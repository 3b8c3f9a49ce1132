use Rattle.hash_theorems.proofs.ShortEven.{stretches-even}
use Rattle.hash_theorems.proofs.jenkins.stretch.short_spooky_is_even.Goals as goal

pub returns : goal.returns
returns c = λ seed1 seed2 front back hash s1 s2 _ back_text place few first_in second_in.
    stretches-even seed1 seed2 front back s1 s2 place few back_text hash first_in second_in
