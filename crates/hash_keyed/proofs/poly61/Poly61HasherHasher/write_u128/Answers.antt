use Rattle.hash_keyed.proofs.Lemmas.{◌/◌, ◌%◌, ◌^◌, sym, ap, ◌∙◌, arith, fold-append, le_bytes, after, byte_in, le_bytes-halves}
use Rattle.hash_keyed.proofs.poly61.Poly61HasherHasher.write_u128.Goals as goal

pub returns : goal.returns
returns c =
    let n = c.args.number in
    c.number_in-2.ensures ∙ ap (λ at. after at (le_bytes 8 (n / 2 ^ 64))) c.number_in.ensures
    ∙ sym (fold-append byte_in c.args.self.now (le_bytes 8 (n % 2 ^ 64)) (le_bytes 8 (n / 2 ^ 64)))
    ∙ ap (after c.args.self.now) (le_bytes-halves n (omega arith))
