use Rattle.hash_theorems.proofs.Xxh3Common.{refl, lit<, arith, Exactly-one, solved, found, found_alone}
use Rattle.hash_theorems.proofs.MixLemmas.{of_length_mix}
use Rattle.hash_theorems.proofs.ShortLemmas.{of_eight_bytes_of}
use Rattle.hash_theorems.proofs.xxh3.unmix.bytes_for.Goals as goal

pub returns : goal.returns
returns c =
    let bytes = of_eight_bytes_of c.args.seed in
    let mix = solved (of_length_mix 8 (lit< tt)) c.un_length_mix.result _ (omega arith) c.un_length_mix.ensures.solves in
    let is = bytes.back_in c.args.hash (omega arith) in
    record {
      leads = found bytes c.args.hash (omega arith) c.halves.result cc;
      alone = λ text is_text long. found_alone bytes c.args.hash c.halves.result (cc) text (is_text, long);
      even = Exactly-one _ _ (is.0, is.1, bytes.there c.args.hash (omega arith))
          (λ text known. found_alone bytes c.args.hash _ refl text (known.0, known.1) known.2);
    }
