use Rattle.hash_theorems.proofs.JenkinsCommon.{◌≡◌, arith, le, rotl, pieces, apply, last_block}
use Rattle.hash_rounds.specs.Rounds.{lookup3_final_steps}
use Rattle.hash_theorems.proofs.jenkins.two_texts.cuts_show_in_lookup3.Goals as goal

pub returns : goal.returns
unfolding le rotl pieces apply last_block lookup3_final_steps
returns c = λ e. let values : 18104817335149544820 ≡ 7744397999705663711 = e in omega (arith, values)
