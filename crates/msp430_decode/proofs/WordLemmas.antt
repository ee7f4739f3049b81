-- The fields of a word, and the word of its fields.
use Rattle.std.proofs.Common.{◌≡◌, ℕ, ◌+◌, ◌*◌, ◌/◌, ◌%◌, ◌<◌, ◌≤◌, arith}

pub record DoubleFields (w o s a b m d : ℕ) : Type 0 where
  pub code_is : w / 4096 ≡ o
  pub source_is : w / 256 % 16 ≡ s
  pub ad_is : w / 128 % 2 ≡ a
  pub width_is : w / 64 % 2 ≡ b
  pub as_is : w / 16 % 4 ≡ m
  pub destination_is : w % 16 ≡ d

pub double_word : (w o s a b m d : ℕ) → w ≡ o * 4096 + s * 256 + a * 128 + b * 64 + m * 16 + d →
    s < 16 → a < 2 → b < 2 → m < 4 → d < 16 → DoubleFields w o s a b m d
double_word w o s a b m d e hs ha hb hm hd = record {
  code_is = omega arith;
  source_is = omega arith;
  ad_is = omega arith;
  width_is = omega arith;
  as_is = omega arith;
  destination_is = omega arith;
}

pub double_parts : (w : ℕ) →
    w / 4096 * 4096 + w / 256 % 16 * 256 + w / 128 % 2 * 128 + w / 64 % 2 * 64 + w / 16 % 4 * 16 + w % 16 ≡ w
double_parts w = omega arith

pub record SingleFields (w c b m r : ℕ) : Type 0 where
  pub code_is : w / 128 % 8 ≡ c
  pub width_is : w / 64 % 2 ≡ b
  pub as_is : w / 16 % 4 ≡ m
  pub register_is : w % 16 ≡ r

pub single_word : (w c b m r : ℕ) → w ≡ 4096 + c * 128 + b * 64 + m * 16 + r →
    c < 8 → b < 2 → m < 4 → r < 16 → SingleFields w c b m r
single_word w c b m r e hc hb hm hr = record {
  code_is = omega arith;
  width_is = omega arith;
  as_is = omega arith;
  register_is = omega arith;
}

pub single_parts : (w : ℕ) → 4096 ≤ w → w < 5120 →
    4096 + w / 128 % 8 * 128 + w / 64 % 2 * 64 + w / 16 % 4 * 16 + w % 16 ≡ w
single_parts w low high = omega arith

pub record JumpFields (w c o : ℕ) : Type 0 where
  pub condition_is : w / 1024 % 8 ≡ c
  pub offset_is : w % 1024 ≡ o

pub jump_word : (w c o : ℕ) → w ≡ 8192 + c * 1024 + o → c < 8 → o < 1024 → JumpFields w c o
jump_word w c o e hc ho = record { condition_is = omega arith; offset_is = omega arith }

pub jump_parts : (w : ℕ) → 8192 ≤ w → w < 16384 → 8192 + w / 1024 % 8 * 1024 + w % 1024 ≡ w
jump_parts w low high = omega arith
