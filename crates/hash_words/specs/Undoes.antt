-- Functions that undo one another.
use Rattle.std.specs.Prelude.{◌≡◌, ℕ, ◌^◌, ◌<◌}

-- f leads from what has P to what has Q, g back again, and each undoes the other
pub record Undoes {A B : Type 0} (P : A → Type 0) (Q : B → Type 0) (f : A → B) (g : B → A) : Type 0 where
  pub there_in : (x : A) → P x → Q (f x)
  pub back_in : (y : B) → Q y → P (g y)
  pub back : (x : A) → P x → g (f x) ≡ x
  pub there : (y : B) → Q y → f (g y) ≡ y

-- a word of w bits
abbrev pub IsWord : ℕ → ℕ → Type 0
IsWord w x = x < 2 ^ w

-- functions on words of w bits
abbrev pub UndoesWords : ℕ → (ℕ → ℕ) → (ℕ → ℕ) → Type 0
UndoesWords w f g = Undoes (IsWord w) (IsWord w) f g
