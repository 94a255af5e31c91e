mod Cutting
mod Rising
