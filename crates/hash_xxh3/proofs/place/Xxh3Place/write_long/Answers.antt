use Rattle.hash_xxh3.proofs.Common.{◌≡◌, ◌+◌, ◌%◌, ◌^◌, nat_eq, false, ℕ, List, ◌++◌, length, take, ap, ◌∙◌, arith, ap₂, nat_tests, Lanes, advanced}
use Rattle.hash_xxh3.proofs.AdvanceLemmas.{on}
use Rattle.hash_xxh3.proofs.place.Xxh3Place.write_long.Goals as goal

pub returns-then-bytes-kept-clause-there : goal.returns-then-bytes-kept-clause-there
returns-then-bytes-kept-clause-there c =
    let p = c.args.self.now in
    let bytes = c.args.bytes.now in
    let fits = c.requires.fits.long c.requires.long in
    let long : nat_eq p.long 0 ≡ false = grind (arith, nat_tests) in
    let lanes : Lanes = record { words = p.words; stripe = p.stripe } in
    rw long (on p.seed lanes p.length p.kept p.buffer bytes _ fits.some (omega (arith, fits.few))
    (ap (advanced p.seed lanes ((p.length + length bytes) % 2 ^ 64)) c.keep_all.ensures.kept))

pub returns-else-bytes-kept-clause-there : goal.returns-else-bytes-kept-clause-there
returns-else-bytes-kept-clause-there c =
    let p = c.args.self.now in
    let bytes = c.args.bytes.now in
    let fits = c.requires.fits.long c.requires.long in
    let long : nat_eq p.long 0 ≡ false = grind (arith, nat_tests) in
    let lanes : Lanes = record { words = p.words; stripe = p.stripe } in
    let block : p.stripe % 16 ≡ p.stripe = omega (arith, fits.block) in
    let here : c.lanes_at-lanes.result ≡ lanes =
    ap₂ (λ (w : List ℕ) (s : ℕ). record { words = w; stripe = s }) c.lanes_at-lanes.ensures.words (c.lanes_at-lanes.ensures.stripe ∙ block) in
    let total = (p.length + length bytes) % 2 ^ 64 in
    rw long (on p.seed lanes p.length p.kept p.buffer bytes _ fits.some (omega (arith, fits.few))
    (c.advance_under.ensures.position total ∙ ap (λ (l : Lanes). advanced p.seed l total (take p.kept p.buffer ++ bytes)) here))
