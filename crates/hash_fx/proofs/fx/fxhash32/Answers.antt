use Rattle.hash_fx.proofs.Common.{ℕ, ◌^◌, ◌<◌, List, [], ◌∷◌, lit<, reverse, subst, sym, mod_below, from_last, recurrence, fx32_step, words32}
use Rattle.hash_fx.proofs.fx.fxhash32.Goals as goal

-- the last step leaves a word
words_below : (words : List ℕ) → from_last fx32_step 0 words < 2 ^ 32
words_below [] = lit< tt
words_below (last ∷ before) = mod_below _ (2 ^ 32) (lit< tt)

pub returns-clause-below : goal.returns-clause-below
unfolding recurrence
returns-clause-below c = subst (λ n. n < 2 ^ 32) (sym c.hash_of.ensures.value) (words_below (reverse (words32 c.args.bytes.now)))
