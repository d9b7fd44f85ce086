-- Some values, worked out: the logarithm of 0.75, of the f32 before 1, of the least f32 and of 1.5; and of a pole of 30 ms at 4 ms a tick.
use mathlib.Core.Path.{◌≡◌, refl}
use lib.Ieee.{binary32, of_bits, of_int, round, neg, sum, add, sub, mul, div, lt}
use Rattle.float.specs.Narrow.{narrowed}
use Rattle.float.specs.Log.{log_sum, z_of, log_part, log_from, log_split, log_at, wide_log, log_of}
use Rattle.units.specs.Units.{lag_of}

pub of_three_quarters : log_of (of_bits binary32 0x3f40_0000) ≡ of_bits binary32 0xbe93_4b11
unfolding log_of wide_log log_at log_split log_from log_part z_of log_sum narrowed add sub mul div sum round of_int neg of_bits
of_three_quarters = refl

pub before_one : log_of (of_bits binary32 0x3f7f_ffff) ≡ of_bits binary32 0xb380_0000
unfolding log_of wide_log log_at log_split log_from log_part z_of log_sum narrowed add sub mul div sum round of_int neg of_bits
before_one = refl

pub of_least : log_of (of_bits binary32 1) ≡ of_bits binary32 0xc2ce_8ed0
unfolding log_of wide_log log_at log_split log_from log_part z_of log_sum narrowed add sub mul div sum round of_int neg of_bits
of_least = refl

pub of_three_halves : log_of (of_bits binary32 0x3fc0_0000) ≡ of_bits binary32 0x3ecf_991f
unfolding log_of wide_log log_at log_split log_from log_part z_of log_sum narrowed add sub mul div sum round of_int neg of_bits
of_three_halves = refl

pub lag_of_30ms : lag_of (of_bits binary32 0x3b83_126f) (of_bits binary32 0x3f60_0b5c) ≡ of_bits binary32 0x3cf5_c291
unfolding lag_of log_of wide_log log_at log_split log_from log_part z_of log_sum narrowed add sub mul div sum round of_int neg lt of_bits
lag_of_30ms = refl
