use Rattle.hash_xxh3.proofs.Common.{◌≡◌, ◌+◌, ◌/◌, ◌++◌, ◌^◌, ◌%◌, nat_lt, false, ℕ, List, length, take, ◌∙◌, refl, ap, arith, length-append, ap₂, append_assoc, nat_tests, take-put_at, length-put_at, Lanes, start_lanes, stripes_in, advanced, take-append-drop, length-take-le}
use Rattle.hash_xxh3.proofs.AdvanceLemmas.{begun}
use Rattle.hash_xxh3.proofs.advance.begin_through.Goals as goal

pub returns-clause-position : goal.returns-clause-position
returns-clause-position c = λ seed secret_is.
    let kept = c.args.kept in
    let buffer = c.args.buffer.now in
    let bytes = c.args.bytes.now in
    let secret = c.args.secret.now in
    let filled = c.put.new.buffer in
    let head = c.split_at.result.0.now in
    let rest = c.split_at.result.1.now in
    let end : ℕ = kept + length head in
    let text : List ℕ = take kept buffer ++ bytes in
    let whole : length filled ≡ 256 = ap length c.put.ensures ∙ length-put_at kept head buffer (omega arith) ∙ c.told-buffer in
    let cut : head ++ rest ≡ bytes = ap₂ (λ (a b : List ℕ). a ++ b) c.split_at.ensures.front c.split_at.ensures.back
    ∙ take-append-drop c.min.result bytes in
    let all : take end filled ++ rest ≡ text =
    ap (λ (x : List ℕ). x ++ rest) (ap (take end) c.put.ensures ∙ take-put_at kept head buffer end refl (omega arith))
    ∙ append_assoc (take kept buffer) head rest ∙ ap (λ (x : List ℕ). take kept buffer ++ x) cut in
    let size : length text ≡ kept + length bytes = omega (arith, length-append (take kept buffer) bytes, length-take-le kept buffer (omega arith)) in
    let long : nat_lt (length text) 241 ≡ false = grind (arith, nat_tests) in
    let one : length (take 64 filled) / 64 ≡ 1 = omega (arith, length-take-le 64 filled (omega arith)) in
    let first = c.stripes_in.ensures.value ∙ ap (λ n. stripes_in secret start_lanes n (take 64 filled)) one
    ∙ ap (λ (s : List ℕ). stripes_in s start_lanes 1 (take 64 filled)) secret_is
    ∙ begun _ end filled rest (omega arith) (omega arith) ∙ ap (stripes_in _ start_lanes 1) all in
    c.advance.ensures.position seed ((kept + length bytes) % 2 ^ 64) secret_is
    ∙ ap₂ (λ (l : Lanes) (x : List ℕ). advanced seed l ((kept + length bytes) % 2 ^ 64) x) first all
    ∙ rw (long, size) refl
