use Rattle.spread_core.proofs.Common.{◌≡◌, map, rules, subst, ◌∙◌, bytes_eq}
use Rattle.std.specs.Char.{to_ascii_lowercase}
use Rattle.spread_core.proofs.call.is_called.Goals as goal

pub returns : goal.returns
returns c =
    let name = map to_ascii_lowercase c.args.name.now in
    let test : c.eq_ignore_ascii_case.result ≡ bytes_eq (map to_ascii_lowercase c.as_bytes.result.now) name = search rules in
    subst (λ t. c.eq_ignore_ascii_case.result ≡ bytes_eq (map to_ascii_lowercase t) name) (c.as_bytes.ensures.value ∙ c.row.ensures.named)
    test
