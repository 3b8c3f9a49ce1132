-- fx of a text in pieces of 4096 bytes, which are whole words.
use Rattle.std.proofs.Common.{◌≡◌, ◌%◌, ℕ, List, ◌++◌, length, fold, lit<, arith, ap, ◌∙◌}
use Rattle.hash_laws.specs.Reading.{cut}
use Rattle.hash_laws.proofs.ReadingLemmas.{fold-cut_whole}
use Rattle.hash_laws.specs.RecurrenceLaws.{recurrence-append}
use Rattle.hash_fx.specs.Fx.{fx32_step, fx64_step, fx32, fx64, words32, words64}
use Rattle.hash_fx.specs.FxLaws.{fx32_nothing, fx64_nothing}
use Rattle.hash_fx.proofs.WholeWords.{words32-append, words64-append}

after32 : (text more : List ℕ) → length text % 4096 ≡ 0 → fx32 0 (words32 (text ++ more)) ≡ fx32 (fx32 0 (words32 text)) (words32 more)
after32 text more whole = ap (fx32 0) (words32-append text more (omega (arith, whole)))
    ∙ recurrence-append fx32_step 0 (words32 text) (words32 more)

pub whole_fx32 : (text : List ℕ) → fold (λ s piece. fx32 s (words32 piece)) 0 (cut 4096 text) ≡ fx32 0 (words32 text)
whole_fx32 = fold-cut_whole (λ s piece. fx32 s (words32 piece)) 0 4096 (lit< tt) (fx32_nothing 0) after32

after64 : (text more : List ℕ) → length text % 4096 ≡ 0 → fx64 0 (words64 (text ++ more)) ≡ fx64 (fx64 0 (words64 text)) (words64 more)
after64 text more whole = ap (fx64 0) (words64-append text more (omega (arith, whole)))
    ∙ recurrence-append fx64_step 0 (words64 text) (words64 more)

pub whole_fx64 : (text : List ℕ) → fold (λ s piece. fx64 s (words64 piece)) 0 (cut 4096 text) ≡ fx64 0 (words64 text)
whole_fx64 = fold-cut_whole (λ s piece. fx64 s (words64 piece)) 0 4096 (lit< tt) (fx64_nothing 0) after64
