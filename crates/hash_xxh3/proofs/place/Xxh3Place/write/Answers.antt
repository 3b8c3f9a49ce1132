use Rattle.hash_xxh3.proofs.Common.{after_from}
use Rattle.hash_xxh3.specs.Place.{place_of}
use Rattle.hash_xxh3.proofs.place.Xxh3Place.write.Goals as goal

pub returns-then-self-eq0-clause-stands : goal.returns-then-self-eq0-clause-stands
returns-then-self-eq0-clause-stands c = λ seed text stood. record {
  fits = c.write_short.ensures.fits;
  there = after_from (place_of c.args.self.now) _ c.args.bytes.now c.write_short.ensures.there seed text stood.there;
}

pub returns-else-self-eq0-clause-stands : goal.returns-else-self-eq0-clause-stands
returns-else-self-eq0-clause-stands c = λ seed text stood. record {
  fits = c.write_long.ensures.fits;
  there = after_from (place_of c.args.self.now) _ c.args.bytes.now c.write_long.ensures.there seed text stood.there;
}
