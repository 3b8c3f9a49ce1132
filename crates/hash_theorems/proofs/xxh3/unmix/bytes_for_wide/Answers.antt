use Rattle.hash_theorems.proofs.Xxh3Common.{◌≡◌, ◌++◌, refl, arith, w64, to_le_bytes, Exactly-one, solved, found, found_alone}
use Rattle.hash_theorems.proofs.MixLemmas.{of_avalanche}
use Rattle.hash_theorems.proofs.SixteenLemmas.{un_words}
use Rattle.hash_theorems.proofs.WideLemmas.{of_sixteen_bytes_of}
use Rattle.hash_theorems.proofs.xxh3.unmix.bytes_for_wide.Goals as goal

pub returns : goal.returns
returns c =
    let bytes = of_sixteen_bytes_of c.args.seed in
    let low = solved of_avalanche c.un_avalanche-low.result _ (omega arith) c.un_avalanche-low.ensures.solves in
    let high = solved of_avalanche c.un_avalanche.result _ (omega arith) c.un_avalanche.ensures.solves in
    let p = un_words c.args.seed 16 c.args.hash in
    let made : c.two_words.result ≡ to_le_bytes w64 p.0 ++ to_le_bytes w64 p.1 =
    rw (
      c.two_words.ensures,
      c.above-2.ensures,
      c.swap_bytes.ensures,
      c.above.ensures,
      c.secret_pair.ensures,
      c.secret_pair-2.ensures,
      low,
      high,
    ) refl in
    let is = bytes.back_in c.args.hash (omega arith, omega arith) in
    record {
      leads = found bytes c.args.hash (omega arith, omega arith) c.two_words.result made;
      alone = λ text is_text long. found_alone bytes c.args.hash c.two_words.result made text (is_text, long);
      even = Exactly-one _ _ (is.0, is.1, bytes.there c.args.hash (omega arith, omega arith))
          (λ text known. found_alone bytes c.args.hash _ refl text (known.0, known.1) known.2);
    }
