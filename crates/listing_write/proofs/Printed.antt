-- The example that document 01 prints, byte for byte. Assumes nothing.
use Prim.Native.Nat.{ℕ}
use mathlib.Core.List.{List, [], ◌∷◌}
use mathlib.Core.Path.{◌≡◌, refl, ◌∙◌}
use lib.Ieee.{binary64, neg, add, sub, mul, div, of_bits, of_int, of_fields, odd, to_bits, size, lt, eq}
use Rattle.std.specs.Prelude.{Ok}
use Rattle.base.specs.Floats.{zero64}
use Rattle.root.specs.Root.{root_of}
use Rattle.base_bytes.specs.Bytes.{u16_at, u32_at, u64_at}
use Rattle.book.specs.Passes.{passes}
use Rattle.state.specs.State.{carrying, same_vector, n, setting_allowed, coefficients_allowed, terms_allowed, centre_allowed, coefficient_of}
use Rattle.state.specs.declared.State.{State}
use Rattle.state.specs.declared.Injection.{Injection}
use Rattle.state.specs.declared.Setting.{Setting}
use Rattle.gravity_pull.specs.Pull.{g, sound, r3}
use Rattle.gravity.specs.Acceleration.{acceleration_at}
use Rattle.gravity_bodies.specs.Sky.{sky}
use Rattle.gravity_stored.specs.Injection.{kept, injection_checks, injection_answer, launched, stored_check}
use Rattle.state_checks.specs.Common.{common_checks}
use Rattle.run_target.specs.Target.{target_checks}
use Rattle.run_checks.specs.Start.{inputs_checks, start_checks}
use Rattle.run.specs.Run.{run_to}
use Rattle.text_write.specs.Numerals.{digits, shortest, decimal_of, float_text}
use Rattle.listing_write.specs.Lines.{header_line, vector_text, state_line, arrived_line}
use Rattle.strip_order.specs.Order.{read_order}
use Rattle.strip_order.specs.declared.Form.TheVariants.{Plain}
use Rattle.listing_write.specs.Strip.{states_after, state_lines, order_text, strip_text}

-- "Earth 8, others 0, moment 0, position (2, 0, 0), velocity (0, 4, 0), h 1000, DUT 0, target 0 and the book 08 00 00 00 00 00 00 00"
pub given : List ℕ
given =
    0 ∷ 0 ∷ 0 ∷ 0 ∷ 0 ∷ 0 ∷ 32 ∷ 64 ∷ 0 ∷ 0 ∷ 0 ∷ 0 ∷ 0 ∷ 0 ∷ 0 ∷ 0 ∷ 0 ∷ 0 ∷ 0 ∷ 0 ∷ 0 ∷ 0 ∷ 0 ∷ 0
    ∷ 0 ∷ 0 ∷ 0 ∷ 0 ∷ 0 ∷ 0 ∷ 0 ∷ 0 ∷ 0 ∷ 0 ∷ 0 ∷ 0 ∷ 0 ∷ 0 ∷ 0 ∷ 0 ∷ 0 ∷ 0 ∷ 0 ∷ 0 ∷ 0 ∷ 0 ∷ 0 ∷ 0
    ∷ 0 ∷ 0 ∷ 0 ∷ 0 ∷ 0 ∷ 0 ∷ 0 ∷ 0 ∷ 0 ∷ 0 ∷ 0 ∷ 0 ∷ 0 ∷ 0 ∷ 0 ∷ 64 ∷ 0 ∷ 0 ∷ 0 ∷ 0 ∷ 0 ∷ 0 ∷ 0 ∷ 0
    ∷ 0 ∷ 0 ∷ 0 ∷ 0 ∷ 0 ∷ 0 ∷ 0 ∷ 0 ∷ 0 ∷ 0 ∷ 0 ∷ 0 ∷ 0 ∷ 0 ∷ 0 ∷ 0 ∷ 0 ∷ 0 ∷ 0 ∷ 0 ∷ 0 ∷ 0 ∷ 16 ∷ 64
    ∷ 0 ∷ 0 ∷ 0 ∷ 0 ∷ 0 ∷ 0 ∷ 0 ∷ 0 ∷ 232 ∷ 3 ∷ 0 ∷ 0 ∷ 0 ∷ 0 ∷ 0 ∷ 0 ∷ 0 ∷ 0 ∷ 0 ∷ 0 ∷ 0 ∷ 0 ∷ 0 ∷ 0
    ∷ 8 ∷ 0 ∷ 0 ∷ 0 ∷ 0 ∷ 0 ∷ 0 ∷ 0 ∷ []

-- "it prints exactly"
pub printed : List ℕ
printed =
    83 ∷ 84 ∷ 82 ∷ 73 ∷ 80 ∷ 32 ∷ 49 ∷ 48 ∷ 48 ∷ 48 ∷ 10 ∷ 48 ∷ 32 ∷ 52 ∷ 48 ∷ 48 ∷ 48 ∷ 48 ∷ 48 ∷ 48 ∷ 48 ∷ 48 ∷ 48 ∷ 48
    ∷ 48 ∷ 48 ∷ 48 ∷ 48 ∷ 48 ∷ 32 ∷ 48 ∷ 48 ∷ 48 ∷ 48 ∷ 48 ∷ 48 ∷ 48 ∷ 48 ∷ 48 ∷ 48 ∷ 48 ∷ 48 ∷ 48 ∷ 48 ∷ 48 ∷ 48 ∷ 32 ∷ 48
    ∷ 48 ∷ 48 ∷ 48 ∷ 48 ∷ 48 ∷ 48 ∷ 48 ∷ 48 ∷ 48 ∷ 48 ∷ 48 ∷ 48 ∷ 48 ∷ 48 ∷ 48 ∷ 32 ∷ 48 ∷ 48 ∷ 48 ∷ 48 ∷ 48 ∷ 48 ∷ 48 ∷ 48
    ∷ 48 ∷ 48 ∷ 48 ∷ 48 ∷ 48 ∷ 48 ∷ 48 ∷ 48 ∷ 32 ∷ 52 ∷ 48 ∷ 49 ∷ 48 ∷ 48 ∷ 48 ∷ 48 ∷ 48 ∷ 48 ∷ 48 ∷ 48 ∷ 48 ∷ 48 ∷ 48 ∷ 48
    ∷ 48 ∷ 32 ∷ 48 ∷ 48 ∷ 48 ∷ 48 ∷ 48 ∷ 48 ∷ 48 ∷ 48 ∷ 48 ∷ 48 ∷ 48 ∷ 48 ∷ 48 ∷ 48 ∷ 48 ∷ 48 ∷ 10 ∷ 65 ∷ 82 ∷ 82 ∷ 73 ∷ 86
    ∷ 69 ∷ 68 ∷ 32 ∷ 48 ∷ 10 ∷ []

-- what it reads: the order, its book, and the state with the acceleration that the rule gives, (-2, -0, -0)
abbrev book : List ℕ
book = 8 ∷ 0 ∷ 0 ∷ 0 ∷ 0 ∷ 0 ∷ 0 ∷ 0 ∷ []

abbrev setting : Setting
setting =
    record { earth = of_bits binary64 0x4020_0000_0000_0000; moon = zero64; sun = zero64; venus = zero64; mars = zero64; jupiter = zero64; dut = 0; j = zero64; a = zero64; k = zero64; rule = 0 }

abbrev injection : Injection
injection = record { moment = 0; centre = 1; x = of_bits binary64 0x4000_0000_0000_0000; y = zero64; z = zero64; vx = zero64; vy = of_bits binary64 0x4010_0000_0000_0000; vz = zero64 }

abbrev state : State
state = carrying injection (record { x = neg (of_bits binary64 0x4000_0000_0000_0000); y = neg (zero64); z = neg (zero64) })

order_read : strip_text Plain given ≡ order_text book (record { setting = setting; injection = injection; h = 1000; target = 0 })
unfolding strip_text read_order u16_at u32_at u64_at given
order_read = refl

launched_there : launched book setting injection ≡ state
unfolding launched injection_answer injection_checks common_checks kept passes setting_allowed coefficients_allowed terms_allowed centre_allowed coefficient_of
    u16_at u32_at u64_at acceleration_at sky g sound r3 n root_of neg add sub mul div lt eq of_bits of_int
launched_there = refl

in_order : stored_check book setting state ≡ Ok tt
unfolding stored_check same_vector coefficient_of acceleration_at sky g sound r3 n root_of neg add sub mul div lt eq of_bits of_int to_bits
in_order = refl

order_printed : order_text book (record { setting = setting; injection = injection; h = 1000; target = 0 }) ≡ printed
unfolding order_text start_checks inputs_checks target_checks common_checks passes setting_allowed coefficients_allowed terms_allowed centre_allowed coefficient_of
    run_to states_after state_lines header_line state_line vector_text arrived_line decimal_of shortest digits float_text u16_at u32_at u64_at of_bits of_int of_fields odd to_bits size lt printed
order_printed = rw (launched_there, in_order)

pub example : strip_text Plain given ≡ printed
example = order_read ∙ order_printed
