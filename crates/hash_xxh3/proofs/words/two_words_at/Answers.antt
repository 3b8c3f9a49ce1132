use Rattle.hash_xxh3.proofs.Common.{ℕ, List, [], ◌≡◌, ◌+◌, ◌-◌, ◌/◌, ◌≤◌, length, take, drop, ap, ◌∙◌, arith, get_or, first_chunks, drop-drop, drop-take, take-take, le, length-drop, length-take-le, take_all}
use Rattle.hash_xxh3.proofs.words.two_words_at.Goals as goal

pub returns-clause-first : goal.returns-clause-first
returns-clause-first c =
    let text = c.args.text.now in
    let at = c.args.at in
    let piece = take 16 (drop at text) in
    let sixteen : length piece ≡ 16 = length-take-le 16 (drop at text) (omega (arith, length-drop at text, c.requires)) in
    let within : 8 ≤ 16 = omega arith in
    c.le_two.ensures.first
    ∙ ap (λ (ts : List (List ℕ)). le (take 8 (get_or ts 0 [])))
    (c.as_chunks.ensures.front
    ∙ ap (λ k. first_chunks 16 (length (take k (drop at text)) / 16) (take k (drop at text))) (let e : at + 16 - at ≡ 16 = omega arith in e)
    ∙ ap (λ n. first_chunks 16 (n / 16) piece) sixteen)
    ∙ ap le (take-take 8 16 piece within ∙ take-take 8 16 (drop at text) within)

pub returns-clause-second : goal.returns-clause-second
returns-clause-second c =
    let text = c.args.text.now in
    let at = c.args.at in
    let piece = take 16 (drop at text) in
    let behind = drop 8 (drop at text) in
    let sixteen : length piece ≡ 16 = length-take-le 16 (drop at text) (omega (arith, length-drop at text, c.requires)) in
    let eight : length (take 8 behind) ≡ 8 =
    length-take-le 8 behind (omega (arith, length-drop 8 (drop at text), length-drop at text, c.requires)) in
    c.le_two.ensures.second
    ∙ ap (λ (ts : List (List ℕ)). le (drop 8 (get_or ts 0 [])))
    (c.as_chunks.ensures.front
    ∙ ap (λ k. first_chunks 16 (length (take k (drop at text)) / 16) (take k (drop at text))) (let e : at + 16 - at ≡ 16 = omega arith in e)
    ∙ ap (λ n. first_chunks 16 (n / 16) piece) sixteen)
    ∙ ap le (drop-take 8 8 piece ∙ ap (λ (t : List ℕ). take 8 t) (drop-take 8 8 (drop at text)) ∙ take_all 8 (take 8 behind) (omega (arith, eight))
    ∙ ap (λ (t : List ℕ). take 8 t) (drop-drop 8 at text))
