use Rattle.std.proofs.Common.{◌≡◌, drop, length}
use Rattle.image.specs.Image.{placed}
use Rattle.image.proofs.address_map.Image.with_bytes.Given as goal

abbrev pub invariant-loop-byte : goal.invariant-loop-byte
invariant-loop-byte l = record {
  rest : placed l.at (drop l.byte-index l.bytes) l.places.items ≡ placed l.fn.at l.bytes l.initial.places.items;
  size : length l.places.items ≡ 65536;
}
