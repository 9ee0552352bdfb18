pub mod WaveFormat
