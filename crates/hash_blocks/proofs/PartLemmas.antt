-- Bytes behind those that are kept: fewer than complete the block, and at least as many.
use Rattle.hash_blocks.proofs.Common.{◌≡◌, ℕ, ◌+◌, ◌-◌, ◌*◌, ◌<◌, ◌≤◌, List, [], ◌∷◌, ◌++◌, length, take, drop, refl, sym, ap, ◌∙◌, arith, length-append, ap₂, append_assoc, append-nil, take_all, drop_all, take-put_at, take-put_first, blocks-append, blocks_one, blocks_short, tail-append, tail_short}
use Rattle.std.proofs.lemmas.List.{take-append-drop, length-take-le}
use Rattle.hash_words.specs.Put.{put_at}
use Rattle.hash_blocks.specs.Blocks.{blocks, tail}

module _ {S : Type 0} (n : ℕ) (some : 0 < n) (block : S → List ℕ → S) (s : S) (b p : List ℕ) (kept : ℕ) (whole : length b ≡ n)
    (part : kept < n) where
  abbrev all : List ℕ
  all = take kept b ++ p

  size : length (take kept b) ≡ kept
  size = length-take-le kept b (omega (arith, whole, part))

  few : length p < n - kept → length all < n
  few short = omega (arith, length-append (take kept b) p, size, short, part)

  pub few-mixed : length p < n - kept → s ≡ blocks n block s all
  few-mixed short = sym (blocks_short n some block s all (few short))

  pub few-left : (buffer : List ℕ) → length p < n - kept → buffer ≡ put_at kept p b → take (kept + length p) buffer ≡ tail n all
  few-left buffer short put =
      ap (take (kept + length p)) put ∙ take-put_at kept p b (kept + length p) refl (omega (arith, whole, part))
      ∙ sym (tail_short n some all (few short))

  pub few-placed : (buffer : List ℕ) → length p < n - kept → take (kept + length p) buffer ≡ take kept b ++ p
      → take (kept + length p) buffer ≡ tail n all
  few-placed buffer short placed = placed ∙ sym (tail_short n some all (few short))

  -- no bytes were kept
  pub none-mixed : (t to : S) (rest : List ℕ) → kept ≡ 0 → to ≡ blocks n block t rest → t ≡ s → rest ≡ p → to ≡ blocks n block s all
  none-mixed t to rest none led here is =
      led ∙ ap₂ (blocks n block) here (is ∙ sym (ap (λ k. take k b ++ p) none))

  pub none-left : (rest left buffer : List ℕ) → kept ≡ 0 → left ≡ tail n rest → rest ≡ p → take (length left) (put_at 0 left buffer) ≡ tail n all
  none-left rest left buffer none behind is =
      take-put_first left buffer ∙ behind ∙ ap (tail n) (is ∙ sym (ap (λ k. take k b ++ p) none))

  -- the bytes complete the block
  module _ (enough : n - kept ≤ length p) where
    abbrev head : List ℕ
    head = take (n - kept) p

    head-size : length head ≡ n - kept
    head-size = length-take-le (n - kept) p enough

    filled-size : length (take kept b ++ head) ≡ n
    filled-size = omega (arith, length-append (take kept b) head, size, head-size, part)

    filled-is : put_at kept head b ≡ take kept b ++ head
    filled-is =
        let none : drop (kept + length head) b ≡ [] = drop_all (kept + length head) b (omega (arith, whole, head-size, part)) in
        ap (λ (d : List ℕ). take kept b ++ (head ++ d)) none ∙ ap (λ (d : List ℕ). take kept b ++ d) (append-nil head)

    rejoined : (take kept b ++ head) ++ drop (n - kept) p ≡ all
    rejoined = append_assoc (take kept b) head (drop (n - kept) p) ∙ ap (λ (d : List ℕ). take kept b ++ d) (take-append-drop (n - kept) p)

    once : length (take kept b ++ head) ≡ 1 * n
    once = omega (arith, filled-size)

    -- a buffer that begins so is the block
    pub placed-whole : (buffer front : List ℕ) → length buffer ≡ n → take (kept + length front) buffer ≡ take kept b ++ front → front ≡ head
        → buffer ≡ put_at kept front b
    placed-whole buffer front full placed is =
        let long : length front ≡ n - kept = ap (λ (h : List ℕ). length h) is ∙ head-size in
        sym (take_all (kept + length front) buffer (omega (arith, full, long, part))) ∙ placed ∙ ap (λ (h : List ℕ). take kept b ++ h) is
        ∙ sym (ap (λ (h : List ℕ). put_at kept h b) is ∙ filled-is)

    pub whole-mixed : (t to : S) (buffer front rest : List ℕ) → to ≡ blocks n block t rest → t ≡ block s buffer → buffer ≡ put_at kept front b
        → front ≡ head → rest ≡ drop (n - kept) p → to ≡ blocks n block s all
    whole-mixed t to buffer front rest led here filled is behind =
        led
        ∙ ap₂ (blocks n block) (here ∙ ap (block s) (filled ∙ ap (λ (h : List ℕ). put_at kept h b) is ∙ filled-is)
        ∙ sym (blocks_one n some block s (take kept b ++ head) filled-size)) behind
        ∙ sym (blocks-append n some block s (take kept b ++ head) (drop (n - kept) p) 1 once) ∙ ap (blocks n block s) rejoined

    pub whole-left : (rest left buffer : List ℕ) → left ≡ tail n rest → rest ≡ drop (n - kept) p
        → take (length left) (put_at 0 left buffer) ≡ tail n all
    whole-left rest left buffer behind is =
        take-put_first left buffer ∙ behind ∙ ap (tail n) is
        ∙ sym (tail-append n some (take kept b ++ head) (drop (n - kept) p) 1 once) ∙ ap (tail n) rejoined

-- of nothing the first bytes of any buffer are it
pub none_first : (left buffer : List ℕ) → length left ≡ 0 → take (length left) buffer ≡ left
none_first [] buffer none = refl
none_first (x ∷ left) buffer none = absurd (omega (arith, none))
