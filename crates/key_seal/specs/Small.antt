-- Which inputs of jobs the ciphers can take.
use Rattle.std.specs.Prelude.{◌≤◌, ◌+◌, ◌^◌, length}
use Rattle.step_core.specs.declared.jobs.JobInput.{JobInput}
use Rattle.step_core.specs.declared.jobs.JobInput.TheVariants.{AppId, Seal, Unseal}

-- a sealed key has at most 2^32 bytes behind its nonce
abbrev pub IsSmall : JobInput → Type 0
IsSmall (AppId discard secret) = Unit {0}
IsSmall (Seal discard secret nonce key) = Unit {0}
IsSmall (Unseal discard secret sealed) = length sealed ≤ 2 ^ 32 + 12
