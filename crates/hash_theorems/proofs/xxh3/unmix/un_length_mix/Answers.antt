use Rattle.hash_theorems.proofs.Xxh3Common.{solved, found, found_alone, rules}
use Rattle.hash_theorems.proofs.MixLemmas.{of_three_turns, of_length_mix}
use Rattle.hash_theorems.proofs.xxh3.unmix.un_length_mix.Goals as goal

pub returns : goal.returns
returns c =
    let mix = of_length_mix c.args.len c.requires in
    search (rules, solved, of_three_turns, found, found_alone)
