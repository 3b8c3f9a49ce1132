use Rattle.hash_more.proofs.Crc32Common.{◌%◌, ◌^◌, refl, rules, IsText-from_slice, castagnoli}
use Rattle.hash_more.proofs.Crc32Endings.{answer-behind, answer-alone}
use Rattle.hash_more.proofs.crc32.crc32c_ending.Goals as goal

pub returns-clause-leads : goal.returns-clause-leads
returns-clause-leads c text is =
    answer-behind castagnoli refl text c.ending.result (c.args.hash % 2 ^ 32) (c.args.answer % 2 ^ 32) is c.ending.ensures

pub returns-clause-alone : goal.returns-clause-alone
returns-clause-alone c text ending is_text bytes four is led =
    answer-alone castagnoli refl text ending _ _ _ is_text (bytes, four) (IsText-from_slice _ (λ i. search rules), search rules) is c.ending.ensures led
