use Rattle.hash_xxh3.proofs.Common.{◌≡◌, ℕ, List, ap, ◌∙◌, ◌+◌, ◌*◌, ◌++◌, sym, take, length, arith, w64, ap₂, range_with_len, flat_map, add, sub, put_at, secret_piece, secret_of, take-put_two, length-put_at, take_all}
use Rattle.std.specs.Int.{to_le_bytes}
use Rattle.hash_xxh3.proofs.RangeLemmas.{flat_map-range_more}
use Rattle.hash_xxh3.proofs.secret.put_secret.Goals as goal

pub loop-i-preserved : goal.loop-i-preserved
loop-i-preserved c =
    let i = c.loop-i.i in
    let s = c.loop-i.secret in
    let even = c.to_le_bytes-even.result in
    let odd = c.to_le_bytes-odd.result in
    let even-is : even ≡ to_le_bytes w64 (add 64 (c.secret_word.result) c.args.seed) = c.to_le_bytes-even.ensures in
    let odd-is : odd ≡ to_le_bytes w64 (sub 64 (c.secret_word-in-loop-i.result) c.args.seed) = c.to_le_bytes-odd.ensures in
    let even-long : length even ≡ 8 = ap length even-is in
    let odd-long : length odd ≡ 8 = ap length odd-is in
    let written = c.put_array-in-loop-i.ensures ∙ ap (put_at (16 * i + 8) odd) c.put_array.ensures in
    let whole = c.loop-i.invariant.0 in
    let first : length (put_at (16 * i) even s) ≡ length s = length-put_at (16 * i) even s (omega arith) in
    let second : length (put_at (16 * i + 8) odd (put_at (16 * i) even s)) ≡ length (put_at (16 * i) even s) =
    length-put_at (16 * i + 8) odd (put_at (16 * i) even s) (omega arith) in
    let piece : even ++ odd ≡ secret_piece c.args.seed i =
    ap₂ (λ (a b : List ℕ). a ++ b) (even-is ∙ ap (λ w. to_le_bytes w64 (add 64 w c.args.seed)) c.secret_word.ensures)
    (odd-is ∙ ap (λ w. to_le_bytes w64 (sub 64 w c.args.seed)) c.secret_word-in-loop-i.ensures) in (
      ap length written ∙ second ∙ first ∙ whole,
      ap (take (16 * (i + 1))) written
          ∙ take-put_two (16 * i) (16 * i + 8) even odd s (16 * (i + 1)) (omega arith) (omega arith) (omega arith)
          ∙ ap₂ (λ (a b : List ℕ). a ++ b) c.loop-i.invariant.1 piece
          ∙ sym (flat_map-range_more (secret_piece c.args.seed) 0 i (i + 1) i (omega arith) (omega arith)),
    )

pub returns : goal.returns
unfolding secret_of
returns c =
    let at : c.loop-i.i ≡ 12 = omega arith in
    sym (take_all (16 * c.loop-i.i) c.loop-i.secret (omega (arith, c.loop-i.invariant.0))) ∙ c.loop-i.invariant.1
    ∙ ap (λ n. flat_map (secret_piece c.args.seed) (range_with_len 0 n)) at
