use Rattle.hashers.proofs.Common.{sym, ◌∙◌, ap, djb2_from}
use Rattle.std.proofs.Common.{eq-eqb, eqb-true}
use Rattle.hash_laws.specs.TextLaws.{IsText-from_slice}
use Rattle.hashers.proofs.ShortWords.{djb2_same_word}
use Rattle.hashers.proofs.windows.same_word.Goals as goal

pub returns : goal.returns
returns c =
    let x = c.djb2.ensures.value in
    let y = c.djb2-2.ensures.value in (
      (λ t. djb2_same_word c.args.x.now c.args.y.now (IsText-from_slice _ c.type_inv.x) (IsText-from_slice _ c.type_inv.y)
          c.requires.same_length c.requires.first c.requires.second (sym x ∙ eqb-true c.djb2.result c.djb2-2.result t ∙ y)),
      (λ e. eq-eqb c.djb2.result c.djb2-2.result (x ∙ ap (djb2_from 5381) e ∙ sym y)),
    )
