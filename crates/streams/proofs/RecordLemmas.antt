-- Records that come first, and more behind them.
use Rattle.std.proofs.Common.{ℕ, ◌≡◌, List, [], ◌++◌, append_assoc, append-nil, refl}
use Rattle.streams.specs.Records.{ComeFirst}

module _ {records : List ℕ → List (List ℕ)} where
  pub first_none : {text : List ℕ} → ComeFirst records text [] text
  first_none = record { stay = λ more. refl }

  pub first_both : {text mid rest : List ℕ} {first second : List (List ℕ)} → ComeFirst records text first mid
      → ComeFirst records mid second rest → ComeFirst records text (first ++ second) rest
  first_both one two = record { stay = λ more. rw (one.stay more, two.stay more, append_assoc) }

  -- with more bytes behind them
  pub first_behind : {text rest : List ℕ} {first : List (List ℕ)} (more : List ℕ) → ComeFirst records text first rest
      → ComeFirst records (text ++ more) first (rest ++ more)
  first_behind {text} {rest} more it = record {
    stay = λ later. rw (append_assoc text more later, it.stay (more ++ later), append_assoc rest more later);
  }

  pub first_all : {text rest : List ℕ} {first : List (List ℕ)} → ComeFirst records text first rest → records text ≡ first ++ records rest
  first_all it = simp append-nil at (it.stay [])
