use Rattle.hash_xxh3.proofs.Common.{ap}
use Rattle.hash_xxh3.specs.WideLaws.{wide_hash_of_text}
use Rattle.hash_xxh3.specs.Place.{place_of}
use Rattle.std.specs.Prelude.{Some}
use Rattle.hash_xxh3.proofs.place.Xxh3Place.hash128.Goals as goal

pub returns-then-fits-clause-of_text : goal.returns-then-fits-clause-of_text
returns-then-fits-clause-of_text c = λ seed text stood. ap Some (wide_hash_of_text (place_of c.args.self.now) _ c.hash128_kept.ensures seed text stood.there)
