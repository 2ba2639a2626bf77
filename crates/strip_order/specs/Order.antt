-- Document 01, "strip": "an order of 120 bytes (six coefficients, moment u64, position, velocity, h u32, DUT u32, target u64,
-- little-endian)". A NaN's pattern is a NaN, which the checks then refuse. Document 02, R-7: "A second program takes a 144-byte order
-- with J, A, K after the old 120 bytes", and the old one is "read as J and K zero".
use Rattle.base.specs.declared.Refusal.{Refusal}
use Rattle.std.specs.Prelude.{ℕ, List, length, Result, Ok, Err}
use Rattle.base.specs.Choice.{if◌then◌otherwise◌, ◌<?◌}
use Rattle.base.specs.Floats.{zero64}
use Rattle.state.specs.declared.Injection.{Injection}
use Rattle.state.specs.declared.Setting.{Setting}
use Rattle.base_bytes.specs.Bytes.{u32_at, u64_at, float_at}
use Rattle.strip_order.specs.declared.Form.{Form}
use Rattle.strip_order.specs.declared.Form.TheVariants.{Plain, Whole}
use Rattle.strip_order.specs.declared.Terms.{Terms}
use Rattle.strip_order.specs.declared.Order.{Order}

abbrev pub order_length : Form → ℕ
order_length Plain = 120
order_length Whole = 144

-- J, A and K
abbrev pub terms_of : Form → List ℕ → Terms
terms_of Plain b = record { j = zero64; a = zero64; k = zero64 }
terms_of Whole b = record { j = float_at b 120; a = float_at b 128; k = float_at b 136 }

-- six coefficients and DUT; the rule is the old one
abbrev pub setting_of : List ℕ → Terms → Setting
setting_of b terms =
    record {
      earth = float_at b 0;
      moon = float_at b 8;
      sun = float_at b 16;
      venus = float_at b 24;
      mars = float_at b 32;
      jupiter = float_at b 40;
      dut = u32_at b 108;
      j = terms.j;
      a = terms.a;
      k = terms.k;
      rule = 0;
    }

-- R-8: an order gives no acceleration
abbrev pub injection_of : List ℕ → Injection
injection_of b =
    record {
      moment = u64_at b 48;
      centre = 1;
      x = float_at b 56;
      y = float_at b 64;
      z = float_at b 72;
      vx = float_at b 80;
      vy = float_at b 88;
      vz = float_at b 96;
    }

abbrev pub order_of : Form → List ℕ → Order
order_of form b =
    record { setting = setting_of b (terms_of form b); injection = injection_of b; h = u32_at b 104; target = u64_at b 112 }

-- "Input below 120 bytes .. is 1", and below 144 if that is the length of the order
unfoldable pub read_order : Form → List ℕ → Result Order Refusal
read_order form b = if length b <? order_length form then Err Refusal.Book otherwise Ok (order_of form b)
